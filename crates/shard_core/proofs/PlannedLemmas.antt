-- The plan of a drain makes the batch of the points of a metric.
use Rattle.std.proofs.Common.{◌≡◌, ◌≢◌, ◌↔◌, ◌∙◌, ℕ, ℤ, Bool, true, false, List, [], Option, Some, None, IfSome, IsSomeAnd, inl, refl, sym, ap, subst, arith}
use Rattle.std.specs.Prelude.{◌&&◌, not, unwrap_or}
use Rattle.std.proofs.lemmas.Bool.{true≢false}
use Rattle.std.proofs.lemmas.Option.{none-some}
use Rattle.outside_io.specs.Image.{Image}
use Rattle.metric_path.specs.FileName.{file_name_of}
use Rattle.ring_format.specs.Layout.{LayoutValue}
use Rattle.ring_format.specs.Patch.{Cells, PatchValue}
use Rattle.ring_archive.specs.Ring.{HoldsRing, IsRingFileIn, OnFile, ReadsAs, Rings, UnderPatch, bare}
use Rattle.ring_archive.proofs.AlikeLemmas.{fresh_alike}
use Rattle.ring_archive.proofs.UnderLemmas.{ring_file_holds, ring_holds}
use Rattle.archive_update.specs.Batch.{batch, HaveNoHome}
use Rattle.archive_update.specs.Carried.{Carries}
use Rattle.archive_update.specs.Laid.{IsAlike}
use Rattle.metric_table.specs.Table.{kept_version}
use Rattle.metric_table.specs.declared.known.Known.{Known}
use Rattle.shard_core.specs.Plans.{MayPlan, PlansFor}
use Rattle.shard_core.proofs.KeptLemmas.{two_where_old, version_by, version_or_new}

-- over whatever its file reads as, the new patch makes the batch of what the old one makes of it
abbrev Makes : LayoutValue → ℕ → List (ℕ × ℤ) → PatchValue → PatchValue → List ℕ → Type 0
Makes given now points old new file = (rings : Rings) → ReadsAs old file rings → ReadsAs new file (batch given now points rings)

-- the patch that a plan is given: blank, or one that a file of version 1 was carried into
pub record IsGiven (known : Known) (image : Option Image) (name path : List ℕ) (old : PatchValue) : Type 0 where
  pub own : old.path ≡ path
  pub layout : old.layout ≡ known.layout
  pub fresh : old.fresh ≡ not (known.is_kept && not known.is_old)
  pub blank : kept_version known ≢ Some 1 → old.cells ≡ []
  pub carried : kept_version known ≡ Some 1
      → OnFile image name (λ file. (rings : Rings) → ReadsAs (bare path known.layout) file rings → ReadsAs old [] rings)

two_not_one : ◌≡◌ {A = Option ℕ} (Some 2) (Some 1) → ⊥
two_not_one e = let same : 2 ≡ 1 = ap (λ (o : Option ℕ). unwrap_or o 2) e in omega (arith, same)

blank_is : (known : Known) (image : Option Image) (name path : List ℕ) (mid : PatchValue) → IsGiven known image name path mid → (b : Bool) → mid.fresh ≡ b → mid.cells ≡ []
    → mid ≡ record { path = path; layout = known.layout; fresh = b; cells = [] }
blank_is known image name path mid its b fresh none =
    ap (λ (p : List ℕ). record { path = p; layout = mid.layout; fresh = mid.fresh; cells = mid.cells }) its.own
    ∙ ap (λ (m : LayoutValue). record { path = path; layout = m; fresh = mid.fresh; cells = mid.cells }) its.layout
    ∙ ap (λ (f : Bool). record { path = path; layout = known.layout; fresh = f; cells = mid.cells }) fresh
    ∙ ap (λ (cs : Cells). record { path = path; layout = known.layout; fresh = b; cells = cs }) none

-- a metric whose patch is not fresh has no file of version 1
not_old : (known : Known) → not (known.is_kept && not known.is_old) ≡ false → kept_version known ≢ Some 1
not_old known is = by known.is_kept known.is_old is
  where
    by : (kept old : Bool) → not (kept && not old) ≡ false → version_by kept old ≢ Some 1
    by true true e = absurd (true≢false e)
    by true false e = two_not_one
    by false old e = absurd (true≢false e)

-- from the blank patch, and what became of it
pub given_for : (known : Known) (image : Option Image) (name path : List ℕ) (blank mid : PatchValue)
    → blank ≡ record { path = path; layout = known.layout; fresh = not (known.is_kept && not known.is_old); cells = [] } → IsAlike blank mid
    → (kept_version known ≢ Some 1 → mid ≡ blank) → (kept_version known ≡ Some 1 → OnFile image name (Carries blank mid)) → IsGiven known image name path mid
given_for known image name path blank mid is alike same carries = record {
  own = alike.path ∙ ap (λ (p : PatchValue). p.path) is;
  layout = alike.layout ∙ ap (λ (p : PatchValue). p.layout) is;
  fresh = alike.fresh ∙ ap (λ (p : PatchValue). p.fresh) is;
  blank = λ other. ap (λ (p : PatchValue). p.cells) (same other ∙ is);
  carried = λ old. on image (carries old);
}
  where
    Reads : List ℕ → Type 0
    Reads file = (rings : Rings) → ReadsAs (bare path known.layout) file rings → ReadsAs mid [] rings

    held : (o : Option (List ℕ)) → IsSomeAnd o (Carries blank mid) → IsSomeAnd o Reads
    held None all = absurd all
    held (Some file) all = subst (λ (p : PatchValue). (rings : Rings) → ReadsAs (bare p.path p.layout) file rings → ReadsAs mid [] rings) is all.reads

    on : (told : Option Image) → OnFile told name (Carries blank mid) → OnFile told name Reads
    on None all = tt
    on (Some i) all = held (i name) all

-- ---- what a plan needs

-- a view of version 1 is of a file that is written anew
pub old_is_fresh : (known : Known) → unwrap_or (kept_version known) 2 ≡ 1 → not (known.is_kept && not known.is_old) ≡ true
old_is_fresh known = by known.is_kept known.is_old
  where
    by : (kept old : Bool) → unwrap_or (version_by kept old) 2 ≡ 1 → not (kept && not old) ≡ true
    by true true e = refl
    by true false e = absurd (omega (arith, e))
    by false old e = refl

-- the file of version 1 that is carried
pub old_is_there : (known : Known) (image : Option Image) (path : List ℕ) (points : List (ℕ × ℤ)) → MayPlan known image path points → kept_version known ≡ Some 1
    → HoldsRing false image (file_name_of path) 1 known.layout.archives
old_is_there known image path points may old =
    ring_file_holds image (file_name_of path) 1 known.layout (inl refl)
    (subst (λ (o : Option ℕ). IfSome o (λ version. OnFile image (file_name_of path) (IsRingFileIn version known.layout))) old may.file)

-- the file under the patch that is given to a plan
pub plan_is_there : (known : Known) (image : Option Image) (path : List ℕ) (points : List (ℕ × ℤ)) (fresh : Bool) → MayPlan known image path points → fresh ≡ not (known.is_kept && not known.is_old)
    → HoldsRing fresh image (file_name_of path) (unwrap_or (kept_version known) 2) known.layout.archives
plan_is_there known image path points fresh may is =
    ring_holds fresh image (file_name_of path) (unwrap_or (kept_version known) 2) known.layout (version_or_new known) (λ old.
    let two = two_where_old known fresh is old in
    subst (λ (o : Option ℕ). OnFile image (file_name_of path) (IsRingFileIn (unwrap_or o 2) known.layout)) (sym two)
    (subst (λ (o : Option ℕ). IfSome o (λ version. OnFile image (file_name_of path) (IsRingFileIn version known.layout))) two may.file))

-- ---- what it makes

-- the file that was carried into the patch
carried_over : (image : Option Image) (name path : List ℕ) (layout given : LayoutValue) (mid new : PatchValue) (now : ℕ) (points : List (ℕ × ℤ)) → new.fresh ≡ true → Makes given now points mid new []
    → OnFile image name (λ file. (rings : Rings) → ReadsAs (bare path layout) file rings → ReadsAs mid [] rings) → OnFile image name (Makes given now points (bare path layout) new)
carried_over None name path layout given mid new now points fresh made on = tt
carried_over (Some image) name path layout given mid new now points fresh made on = held (image name) on
  where
    held : (o : Option (List ℕ)) → IsSomeAnd o (λ file. (rings : Rings) → ReadsAs (bare path layout) file rings → ReadsAs mid [] rings)
        → IsSomeAnd o (Makes given now points (bare path layout) new)
    held None is = absurd is
    held (Some file) is = λ rings reads. fresh_alike new [] file (batch given now points rings) fresh (made rings (is rings reads))

-- over the file of a metric the plan makes the batch of what is kept of it
over_by : (kept old : Bool) (known : Known) (image : Option Image) (name path : List ℕ) (given : LayoutValue) (mid new : PatchValue) (now : ℕ) (points : List (ℕ × ℤ))
    → known.is_kept ≡ kept → known.is_old ≡ old → IsGiven known image name path mid → new.fresh ≡ mid.fresh → UnderPatch mid.fresh image name (Makes given now points mid new)
    → UnderPatch (not kept) image name (Makes given now points (record { path = path; layout = known.layout; fresh = not kept; cells = [] }) new)
over_by true true known image name path given mid new now points k o its same plans =
    let fresh : mid.fresh ≡ true = its.fresh ∙ rw (k, o) refl in
    carried_over image name path known.layout given mid new now points (same ∙ fresh) (subst (λ (b : Bool). UnderPatch b image name (Makes given now points mid new)) fresh plans) (its.carried (rw (k, o) refl))
over_by true false known image name path given mid new now points k o its same plans =
    let none : mid ≡ record { path = path; layout = known.layout; fresh = false; cells = [] } = blank_is known image name path mid its false (its.fresh ∙ rw (k, o) refl) (its.blank (rw (k, o) (λ e. absurd (two_not_one e)))) in
    subst (λ (p : PatchValue). UnderPatch p.fresh image name (Makes given now points p new)) none plans
over_by false old known image name path given mid new now points k o its same plans =
    let none : mid ≡ record { path = path; layout = known.layout; fresh = true; cells = [] } = blank_is known image name path mid its true (its.fresh ∙ rw k refl) (its.blank (rw k (λ e. absurd (none-some 1 e)))) in
    subst (λ (p : PatchValue). UnderPatch p.fresh image name (Makes given now points p new)) none plans

-- from the patch that is given to a plan, over the file of a name, which was read after the patch was made
pub plans_for : (known : Known) (image read : Option Image) (name path : List ℕ) (given : LayoutValue) (old new : PatchValue) (now : ℕ) (points : List (ℕ × ℤ))
    → IsGiven known image name path old → IsAlike old new → given ≡ known.layout → name ≡ file_name_of path → read ≡ image
    → UnderPatch old.fresh read name (Makes given now points old new)
    → ((new.cells ≡ []) ↔ ((old.cells ≡ []) × HaveNoHome given.archives now points)) → PlansFor known image path points now new
plans_for known image read name path given old new now points its alike layout named same plans cells =
    let laid : new.layout ≡ known.layout = alike.layout ∙ its.layout in
    let fresh : new.fresh ≡ not (known.is_kept && not known.is_old) = alike.fresh ∙ its.fresh in
    let both : given ≡ new.layout = layout ∙ sym laid in
    let over = over_by known.is_kept known.is_old known image name path given old new now points refl refl its alike.fresh
    (subst (λ (i : Option Image). UnderPatch old.fresh i name (Makes given now points old new)) same plans) in
    let at_name = subst (λ (n : List ℕ). UnderPatch (not known.is_kept) image n (Makes given now points (record { path = path; layout = known.layout; fresh = not known.is_kept; cells = [] }) new)) named over in
    let in_layout = subst (λ (m : LayoutValue). UnderPatch (not known.is_kept) image (file_name_of path) (Makes given now points (record { path = path; layout = m; fresh = not known.is_kept; cells = [] }) new)) (sym laid) at_name in
    record {
      own = alike.path ∙ its.own;
      layout = laid;
      fresh = fresh;
      batch = subst (λ (m : LayoutValue). UnderPatch (not known.is_kept) image (file_name_of path) (Makes m now points (record { path = path; layout = new.layout; fresh = not known.is_kept; cells = [] }) new)) both in_layout;
      cells = λ over.
          let none : old.cells ≡ [] = its.blank (not_old known (sym fresh ∙ over)) in
          let homes : (new.cells ≡ []) ↔ HaveNoHome given.archives now points = (λ e. (cells.0 e).1, λ home. cells.1 (none, home)) in
          subst (λ (m : LayoutValue). (new.cells ≡ []) ↔ HaveNoHome m.archives now points) both homes;
    }
