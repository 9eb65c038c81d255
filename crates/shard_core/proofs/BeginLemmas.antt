-- A drain begins: its metric leaves the pending ones, and is kept as it is after the drain.
use Rattle.std.proofs.Common.{◌≡◌, inl, inr, ◌∙◌, ℕ, suc, ℤ, ◌+◌, ◌<◌, ◌==◌, Bool, true, false, List, [], ◌∷◌, length, Option, Some, None, IfSome, IsSomeAnd, refl, sym, ap, subst, arith, option_map, if◌then◌else◌}
use Rattle.std.specs.Prelude.{◌&&◌, is_some, not, unwrap_or}
use Rattle.std.specs.Option.{option_map_or}
use Rattle.std.specs.Map.{remove_entry}
use Rattle.std.specs.Str.{bytes_eq}
use Rattle.std.proofs.lemmas.Bool.{true≢false}
use Rattle.std.proofs.lemmas.Bool.Decides.{Decides-eqb}
use Rattle.std.proofs.lemmas.Option.{none-some}
use Rattle.outside_io.specs.Image.{Image, WhereKnown}
use Rattle.metric_path.specs.Class.{class_of}
use Rattle.metric_path.specs.FileName.{file_name_of}
use Rattle.metric_path.specs.Path.{path_fault}
use Rattle.ring_format.specs.Layout.{LayoutValue, layout_fault}
use Rattle.ring_format.specs.Patch.{PatchValue}
use Rattle.ring_archive.specs.Ring.{IsRingFile, UnderPatch}
use Rattle.archive_update.specs.Batch.{HaveNoHome}
use Rattle.metric_index.specs.Index.{Sets, entry_of}
use Rattle.metric_table.specs.declared.known.Known.{Known}
use Rattle.metric_table.specs.Table.{drained as once_more, kept_version}
use Rattle.point_cache.specs.Pending.{Cache, points_of}
use Rattle.drain_order.specs.Pick.{pick, queue_after}
use Rattle.drain_order.specs.Picking.{Picking}
use Rattle.write_shelf.specs.Runs.{runs_of}
use Rattle.write_shelf.specs.Shelf.{DrainValue, drain_with}
use Rattle.write_shelf.specs.declared.run.Run.{Run}
use Rattle.ring_writer.specs.PartWritten.{Awaits}
use Rattle.ring_writer.proofs.NextLemmas.{new_awaits, ring_awaits}
use Rattle.redo_log.specs.Ends.{redo_with}
use Rattle.redo_log.specs.Steps.{IsClosed, RedoValue, gate_name, on_way}
use Rattle.redo_log.specs.declared.next_step.NextStep.TheVariants.{CreateLog}
use Rattle.carbon_model.specs.State.{Kept, Metrics, State, form_of, layout_or, points_in}
use Rattle.carbon_model.specs.RingFiles.{IsOfClass, StandsUnder, is_patched}
use Rattle.carbon_model.specs.Replay.{with_drained}
use Rattle.shard_core.specs.Plans.{Begins, Drains, MakesBatch, NeedsNoWrite, PlansFor}
use Rattle.shard_core.specs.Shard.{HasFiles, Holds, HoldsKept, HoldsShelf, Inside, IsLawfulRing, IsOfKept, IsUnderWay, KeepsLayouts, patch_on}
use Rattle.shard_core.specs.Table.{IsEntry, Lists, Table, drains_in, kept_form, form_kept}
use Rattle.shard_core.specs.Work.{HoldsLog, HoldsRedo, first_step}
use Rattle.shard_core.proofs.FileLemmas.{same_text}
use Rattle.shard_core.proofs.KeptLemmas.{file_at, kept_as, no_layout, none_is, two_where_old, version_by}
use Rattle.shard_core.proofs.PendingLemmas.{fewer_without}
use Rattle.shard_core.proofs.PlanLemmas.{LaysNothing, PlansOver, itself, on_shelf, plan_stands, read_before, whole_held}

-- ---- the file of the metric

old_where_two : (known : Known) → kept_version known ≡ Some 2 → not (known.is_kept && not known.is_old) ≡ false
old_where_two known two = by known.is_kept known.is_old two
  where
    by : (kept older : Bool) → version_by kept older ≡ Some 2 → not (kept && not older) ≡ false
    by true true e = let same : 1 ≡ 2 = ap (λ (o : Option ℕ). unwrap_or o 1) e in absurd (omega (arith, same))
    by true false e = refl
    by false older e = absurd (none-some 2 e)

fresh_where_none : (known : Known) (fresh : Bool) → fresh ≡ not (known.is_kept && not known.is_old) → kept_version known ≡ None → fresh ≡ true
fresh_where_none known fresh is none = is ∙ rw (none_is known none) refl

some_where_kept : (known : Known) → is_some (kept_version known) ≡ known.is_kept
some_where_kept known = by known.is_kept
  where
    by : (b : Bool) → is_some (version_by b known.is_old) ≡ b
    by true = refl
    by false = refl

-- ---- what is kept

before_by : (version : Option ℕ) (known : Known) (given : LayoutValue) (kept : Option Kept) (layout : LayoutValue) → kept_version known ≡ version → layout ≡ known.layout
    → form_kept (Some known) ≡ option_map form_of kept → (known.is_kept ≡ false → known.layout ≡ given) → read_before version given kept layout
before_by None known given kept layout is l index rules = (no_layout kept (sym (kept_as known None is) ∙ index), l ∙ rules (none_is known is))
before_by (Some version) known given kept layout is l index rules = sym index ∙ kept_as known (Some version) is ∙ ap (λ (m : LayoutValue). Some (version, m)) (sym l)

-- what was kept of the metric, by what is known of it
pub was_before : (known : Known) (patch : PatchValue) (given : LayoutValue) (kept : Option Kept) → patch.layout ≡ known.layout
    → form_kept (Some known) ≡ option_map form_of kept → (known.is_kept ≡ false → known.layout ≡ given) → read_before (kept_version known) given kept patch.layout
was_before known patch given kept l index rules = before_by (kept_version known) known given kept patch.layout refl l index rules

layout_known : (version : Option ℕ) (given : LayoutValue) (kept : Option Kept) (layout : LayoutValue) → read_before version given kept layout → layout ≡ layout_or given kept
layout_known None given None layout known = known.1
layout_known None given (Some k) layout known = absurd (none-some k (sym known.0))
layout_known (Some version) given None layout known = absurd (none-some (version, layout) known)
layout_known (Some version) given (Some k) layout known = sym (ap (λ (o : Option (ℕ × LayoutValue)). option_map_or (λ form. form.1) o layout) known)

pub plan_holds : (told known_image : Option Image) (class : ℕ) (table table' : Table) (shelf : Option DrainValue) (kept : List ℕ → Option Kept) (path : List ℕ) (given : LayoutValue) (known : Known) (patch : PatchValue) (now : ℕ) (points : List (ℕ × ℤ))
    → IsOfClass class path → entry_of table path ≡ Some known → Sets table table' path (Some (once_more known)) → PlansFor known known_image path points now patch → (known.is_kept ≡ false → known.layout ≡ given)
    → HasFiles class table None known_image → shelf ≡ drain_with patch (runs_of patch)
    → HoldsKept told class table None known_image kept → HoldsKept told class table' (patch_on shelf) known_image (with_drained kept path given now points)
plan_holds told known_image class table table' shelf kept path given known patch now points one there sets plans rules files put holds = record {
  layouts = λ p of_class. elim (same_text p path) [
    | inl same ↦ subst (λ (q : List ℕ). kept_form table' q ≡ option_map form_of (with_drained kept path given now points q)) (sym same.1)
        (ap form_kept sets.here ∙ ap (λ (m : LayoutValue). Some (2, m)) (sym plans.layout ∙ layout_known (kept_version known) given (kept path) patch.layout before) ∙ sym drained_layout)
    | inr other ↦ rw other.0 (ap form_kept (sets.others p other.1) ∙ holds.layouts p of_class)
  ];
  files = by told known_image plans.batch files holds.files;
}
  where
    before : read_before (kept_version known) given (kept path) patch.layout
    before = was_before known patch given (kept path) plans.layout (sym (ap form_kept there) ∙ holds.layouts path one) rules

    drained_layout : option_map form_of (with_drained kept path given now points path) ≡ Some (2, layout_or given (kept path))
    drained_layout = rw (itself path) refl

    by : (t k : Option Image) → UnderPatch (not known.is_kept) k (file_name_of path) (PlansOver (not known.is_kept) patch path now points) → HasFiles class table None k
        → WhereKnown t k (λ opening image. StandsUnder opening image None kept class) → WhereKnown t k (λ opening image. StandsUnder opening image (patch_on shelf) (with_drained kept path given now points) class)
    by None None under fs stands = tt
    by None (Some image) under fs stands = absurd stands
    by (Some opening) None under fs stands = absurd stands
    by (Some opening) (Some image) under fs stands =
        plan_stands opening image shelf kept class path (kept_version known) given patch now points one plans.own put (fresh_where_none known patch.fresh plans.fresh) before
        (λ old. subst (λ (m : LayoutValue). IsSomeAnd (image (file_name_of path)) (IsLawfulRing 2 m)) (sym plans.layout)
        (file_at class table None (Some image) path known 2 one refl there fs (two_where_old known patch.fresh plans.fresh old)))
        (subst (λ (b : Bool). UnderPatch (not b) (Some image) (file_name_of path) (PlansOver (not b) patch path now points)) (sym (some_where_kept known)) under) stands

-- ---- the whole shard

same_number : (k : ℕ) → (k == k) ≡ true
same_number k = (Decides-eqb k k).1 refl

-- what is pending once the metric is taken, which was picked
pub record Leaves (old : Inside) (cache : Cache) (picker : Picking) (path : List ℕ) : Type 0 where
  pub metrics : cache.metrics ≡ remove_entry (bytes_eq path) old.cache.metrics
  pub limit : cache.limit ≡ old.cache.limit
  pub queue : picker.queue ≡ queue_after old.picker.strategy old.picker.queue old.cache.metrics
  pub strategy : picker.strategy ≡ old.picker.strategy
  pub picked : pick old.picker.strategy old.picker.queue old.cache.metrics ≡ Some path
  pub some : 0 < length (points_of old.cache.metrics path)

drains_after : (table table' : Table) (path p : List ℕ) (known : Known) (s : State) → entry_of table path ≡ Some known → Sets table table' path (Some (once_more known)) → drains_in table p ≡ s.drains p
    → drains_in table' p ≡ (if bytes_eq p path then suc (s.drains p) else s.drains p)
drains_after table table' path p known s there sets was = elim (same_text p path) [
  | inl same ↦
      let count : known.drains ≡ s.drains p = sym (ap (λ (o : Option Known). option_map_or (λ k. k.drains) o 0) (ap (entry_of table) same.1 ∙ there)) ∙ was in
      let more : drains_in table' p ≡ known.drains + 1 = ap (λ (o : Option Known). option_map_or (λ k. k.drains) o 0) (ap (entry_of table') same.1 ∙ sets.here) in
      rw same.0 (omega (arith, more, count))
  | inr other ↦ rw other.0 (ap (λ (o : Option Known). option_map_or (λ k. k.drains) o 0) (sets.others p other.1) ∙ was)
]

pub drains_picked : (old : Inside) (cache : Cache) (picker : Picking) (table : Table) (shelf : Option DrainValue) (steps : ℕ) (log : Option (Option RedoValue)) (path : List ℕ) (now : ℕ) (patch : PatchValue) → old.shelf ≡ None → IsOfClass old.class path → Leaves old cache picker path
    → (makes : MakesBatch old path now patch) → Sets old.table table path (Some (once_more makes.known)) → shelf ≡ drain_with patch (runs_of patch) → HasFiles old.class old.table None old.known
    → Lists old.class old.rules old.cache.metrics old.table
    → Drains old (record old { cache = cache; picker = picker; table = table; shelf = shelf; steps = steps; log = log }) path now
drains_picked old cache picker table shelf steps log path now patch empty one leaves makes sets put files lists told s holds =
    let entry : IsEntry old.class old.rules old.cache.metrics path makes.known = subst (λ (o : Option Known). IfSome o (IsEntry old.class old.rules old.cache.metrics path)) makes.there (lists.entries path) in
    let its : points_of old.cache.metrics path ≡ points_in s path = ap (λ (ms : Metrics). points_of ms path) (holds.pending ∙ ap s.pending (sym one.here)) in
    let was : HoldsKept told old.class old.table None old.known s.kept = subst (λ (o : Option DrainValue). HoldsKept told old.class old.table (patch_on o) old.known s.kept) empty holds.kept in
    let kept = plan_holds told old.known old.class old.table table shelf s.kept path (s.rules path) makes.known patch now (points_of old.cache.metrics path) one makes.there sets makes.plans
    (λ none. entry.given none ∙ sym (holds.rules path one.here)) files put was in (
      rw (← holds.strategy, ← holds.queue, ← holds.pending) leaves.picked,
      record {
        pending = leaves.metrics ∙ rw (one.here, same_number old.class) (ap (λ (ms : Metrics). remove_entry (bytes_eq path) ms) holds.pending);
        queue = leaves.queue ∙ rw (one.here, same_number old.class, holds.strategy, holds.queue, holds.pending) refl;
        kept = subst (λ (ps : List (ℕ × ℤ)). HoldsKept told old.class table (patch_on shelf) old.known (with_drained s.kept path (s.rules path) now ps)) its kept;
        drains = λ p of_class. drains_after old.table table path p makes.known s makes.there sets (holds.drains p of_class);
        rules = holds.rules;
        limit = leaves.limit ∙ holds.limit;
        strategy = leaves.strategy ∙ holds.strategy;
      },
    )

-- ---- whether there is something to write

-- no cell is to be written into a file of this version and layout
abbrev NoHomeIn : Inside → List ℕ → ℕ → ℕ × LayoutValue → Type 0
NoHomeIn shard path now form = (form.0 ≡ 2) × HaveNoHome form.1.archives now (points_of shard.cache.metrics path)

needs_by : (version : Option ℕ) (layout : LayoutValue) (P : ℕ × LayoutValue → Type 0) → IsSomeAnd (option_map (λ v. (v, layout)) version) P → (v : ℕ) × ((version ≡ Some v) × P (v, layout))
needs_by None layout P some = absurd some
needs_by (Some v) layout P some = (v, (refl, some))

pub needs_none : (shard : Inside) (path : List ℕ) (now : ℕ) (patch : PatchValue) → MakesBatch shard path now patch → LaysNothing patch → NeedsNoWrite shard path now
needs_none shard path now patch makes none =
    let two = two_where_old makes.known patch.fresh makes.plans.fresh none.0 in
    subst (λ (o : Option (ℕ × LayoutValue)). IsSomeAnd o (NoHomeIn shard path now)) (sym (ap form_kept makes.there ∙ kept_as makes.known (Some 2) two))
    (refl, subst (λ (m : LayoutValue). HaveNoHome m.archives now (points_of shard.cache.metrics path)) makes.plans.layout ((makes.plans.cells none.0).0 none.1))

pub none_needed : (shard : Inside) (path : List ℕ) (now : ℕ) (patch : PatchValue) → MakesBatch shard path now patch → NeedsNoWrite shard path now → LaysNothing patch
none_needed shard path now patch makes needs =
    let some = needs_by (kept_version makes.known) makes.known.layout (NoHomeIn shard path now)
    (subst (λ (o : Option Known). IsSomeAnd (form_kept o) (NoHomeIn shard path now)) makes.there needs) in
    let two : kept_version makes.known ≡ Some 2 = some.1.0 ∙ ap (λ (v : ℕ). Some v) some.1.1.0 in
    let old : patch.fresh ≡ false = makes.plans.fresh ∙ old_where_two makes.known two in (
      old,
      (makes.plans.cells old).1 (subst (λ (m : LayoutValue). HaveNoHome m.archives now (points_of shard.cache.metrics path)) (sym makes.plans.layout) some.1.1.1),
    )

pub begins : (old : Inside) (cache : Cache) (picker : Picking) (table : Table) (shelf : Option DrainValue) (steps : ℕ) (log : Option (Option RedoValue)) (path : List ℕ) (now : ℕ) (patch : PatchValue) → old.shelf ≡ None → IsOfClass old.class path → Leaves old cache picker path
    → (makes : MakesBatch old path now patch) → Sets old.table table path (Some (once_more makes.known)) → shelf ≡ drain_with patch (runs_of patch) → length (runs_of patch) < 5000000 → steps < 5000000 → HasFiles old.class old.table None old.known
    → Lists old.class old.rules old.cache.metrics old.table → log ≡ option_map (λ (redo : Option RedoValue). first_step shelf) old.log
    → Begins old (record old { cache = cache; picker = picker; table = table; shelf = shelf; steps = steps; log = log }) path now
begins old cache picker table shelf steps log path now patch empty one leaves makes sets put few low files lists logged = record {
  empty = empty;
  here = one.here;
  drains = drains_picked old cache picker table shelf steps log path now patch empty one leaves makes sets put files lists;
  shelf = elim (on_shelf patch) [
    | inl none ↦ rw (put, none.0) tt
    | inr some ↦ rw (put, some.0) (record { own = makes.plans.own; all = refl; few = few })
  ];
  log = logged;
  few = low;
  nothing = elim (on_shelf patch) [
    | inl none ↦ (λ _. needs_none old path now patch makes none.1, λ _. put ∙ none.0)
    | inr some ↦ (λ e. absurd (none-some _ (sym e ∙ put ∙ some.0)), λ needs. absurd (some.1 (none_needed old path now patch makes needs)))
  ];
  fewer = rw leaves.metrics (fewer_without old.cache.metrics path leaves.some);
}

-- ---- what the shard holds then

pub files_begun : (class : ℕ) (table table' : Table) (path : List ℕ) (known : Known) (shelf : Option DrainValue) (patch : PatchValue) (image : Option Image) → IsOfClass class path → entry_of table path ≡ Some known
    → Sets table table' path (Some (once_more known)) → patch.path ≡ path → patch.layout ≡ known.layout → patch.fresh ≡ not (known.is_kept && not known.is_old) → shelf ≡ drain_with patch (runs_of patch)
    → HasFiles class table None image → HasFiles class table' (patch_on shelf) image
files_begun class table table' path known shelf patch None one there sets its l fresh put files = tt
files_begun class table table' path known shelf patch (Some image) one there sets its l fresh put files = λ p legal here apart. elim (same_text p path) [
  | inl same ↦ elim (on_shelf patch) [
    | inl none ↦
        let two = two_where_old known patch.fresh fresh none.1.0 in
        subst (λ (q : List ℕ). IfSome (kept_form table' q) (λ form. IsSomeAnd (image (file_name_of q)) (IsLawfulRing form.0 form.1))) (sym same.1)
        (rw sets.here (file_at class table None (Some image) path known 2 one refl there files two))
    | inr some ↦ absurd (true≢false (sym (subst (λ (o : Option DrainValue). is_patched (patch_on o) p ≡ true) (sym (put ∙ some.0)) (ap (λ (q : List ℕ). bytes_eq q p) (its ∙ sym same.1) ∙ itself p)) ∙ apart))
  ]
  | inr other ↦ subst (λ (o : Option Known). IfSome (form_kept o) (λ form. IsSomeAnd (image (file_name_of p)) (IsLawfulRing form.0 form.1))) (sym (sets.others p other.1)) (files p legal here refl)
]

begun_far : (patch : PatchValue) (held : Option (List ℕ)) → (patch.fresh ≡ false → IsSomeAnd held (IsRingFile patch.layout)) → Awaits patch (runs_of patch) held
begun_far patch held ring = by patch.fresh refl
  where
    by : (b : Bool) → patch.fresh ≡ b → Awaits patch (runs_of patch) held
    by true fresh = new_awaits patch held fresh
    by false old = ring_awaits patch held old (ring old)

pub shelf_begun : (class : ℕ) (table table' : Table) (path : List ℕ) (known : Known) (shelf : Option DrainValue) (patch : PatchValue) (image : Option Image) → IsOfClass class path → entry_of table path ≡ Some known
    → Sets table table' path (Some (once_more known)) → patch.path ≡ path → patch.layout ≡ known.layout → patch.fresh ≡ not (known.is_kept && not known.is_old) → shelf ≡ drain_with patch (runs_of patch)
    → (IsOfKept class table' patch) → HasFiles class table None image → HoldsShelf class table' shelf image
shelf_begun class table table' path known shelf patch image one there sets its l fresh put of_kept files = elim (on_shelf patch) [
  | inl none ↦ rw (put, none.0) tt
  | inr some ↦ rw (put, some.0) (of_kept, by image files)
]
  where
    ring : (i : Image) → HasFiles class table None (Some i) → patch.fresh ≡ false → IsSomeAnd (i (file_name_of patch.path)) (IsRingFile patch.layout)
    ring i fs old =
        let here = file_at class table None (Some i) path known 2 one refl there fs (two_where_old known patch.fresh fresh old) in
        subst (λ (q : List ℕ). IsSomeAnd (i (file_name_of q)) (IsRingFile patch.layout)) (sym its)
        (whole_held (i (file_name_of path)) patch.layout (subst (λ (m : LayoutValue). IsSomeAnd (i (file_name_of path)) (IsLawfulRing 2 m)) (sym l) here))

    by : (k : Option Image) → HasFiles class table None k → IfSome k (λ i. IsUnderWay (record { patch = patch; left = runs_of patch }) (i (file_name_of patch.path)))
    by None fs = tt
    by (Some i) fs = record { far = begun_far patch (i (file_name_of patch.path)) (ring i fs); ring = ring i fs }

-- a drain leaves all layouts
pub layouts_drained : (old : Inside) (cache : Cache) (picker : Picking) (table : Table) (shelf : Option DrainValue) (steps : ℕ) (log : Option (Option RedoValue)) (path : List ℕ) (known : Known) → entry_of old.table path ≡ Some known → Sets old.table table path (Some (once_more known))
    → KeepsLayouts old (record old { cache = cache; picker = picker; table = table; shelf = shelf; steps = steps; log = log })
layouts_drained old cache picker table shelf steps log path known there sets p layout knows = elim (same_text p path) [
  | inl same ↦ subst (λ (o : Option Known). IsSomeAnd o (λ k. k.layout ≡ layout)) (sym (ap (entry_of table) same.1 ∙ sets.here))
      (subst (λ (o : Option Known). IsSomeAnd o (λ k. k.layout ≡ layout)) (ap (entry_of old.table) same.1 ∙ there) knows)
  | inr other ↦ subst (λ (o : Option Known). IsSomeAnd o (λ k. k.layout ≡ layout)) (sym (sets.others p other.1)) knows
]

-- the name of the file, where the patch came on the shelf
pub named_begun : (shelf : Option DrainValue) (patch : PatchValue) (name : List ℕ) → shelf ≡ drain_with patch (runs_of patch) → name ≡ file_name_of patch.path
    → option_map (λ (drain : DrainValue). name) shelf ≡ option_map (λ (drain : DrainValue). file_name_of drain.patch.path) shelf
named_begun shelf patch name put own = elim (on_shelf patch) [
  | inl none ↦ rw (put, none.0) refl
  | inr some ↦ rw (put, some.0) (ap (λ (n : List ℕ). Some n) own)
]

-- the patch stands at its first step in the log
first_put : (patch : PatchValue) (name : List ℕ) (runs : List Run) → name ≡ file_name_of patch.path → redo_with patch name runs ≡ first_step (drain_with patch runs)
first_put patch name [] named = refl
first_put patch name (run ∷ runs) named = ap (λ (n : List ℕ). Some (on_way (drain_with patch (run ∷ runs)) n CreateLog)) named

pub log_put : (log log' : Option (Option RedoValue)) (shelf : Option DrainValue) (patch : PatchValue) (name : List ℕ) → log' ≡ option_map (λ (redo : Option RedoValue). redo_with patch name (runs_of patch)) log → name ≡ file_name_of patch.path
    → shelf ≡ drain_with patch (runs_of patch) → log' ≡ option_map (λ (redo : Option RedoValue). first_step shelf) log
log_put log log' shelf patch name is named put = is ∙ ap (λ (first : Option RedoValue). option_map (λ (redo : Option RedoValue). first) log) (first_put patch name (runs_of patch) named ∙ ap first_step (sym put))

-- the log has what the first step needs
holds_put : (patch : PatchValue) (name : List ℕ) (runs : List Run) (image : Image) → IsClosed (image gate_name) → IfSome (drain_with patch runs) (λ drain. Awaits drain.patch drain.left (image name)) → HoldsRedo (redo_with patch name runs) image
holds_put patch name [] image closed far = closed
holds_put patch name (run ∷ runs) image closed far = record { log = tt; gate = closed; file = far }

far_put : (class : ℕ) (table : Table) (patch : PatchValue) (runs : List Run) (image : Image) → HoldsShelf class table (drain_with patch runs) (Some image) → IfSome (drain_with patch runs) (λ drain. Awaits drain.patch drain.left (image (file_name_of patch.path)))
far_put class table patch [] image on = tt
far_put class table patch (run ∷ runs) image on = on.1.far

pub log_begun : (class : ℕ) (table : Table) (log log' : Option (Option RedoValue)) (shelf : Option DrainValue) (patch : PatchValue) (name : List ℕ) (known : Option Image) → IfSome log (λ redo. redo ≡ None)
    → log' ≡ option_map (λ (redo : Option RedoValue). redo_with patch name (runs_of patch)) log → name ≡ file_name_of patch.path → shelf ≡ drain_with patch (runs_of patch) → HoldsShelf class table shelf known → HoldsLog log known → HoldsLog log' known
log_begun class table log log' shelf patch name known was is named put on held = subst (λ (o : Option (Option RedoValue)). HoldsLog o known) (sym is) (by log known was held (subst (λ (s : Option DrainValue). HoldsShelf class table s known) put on))
  where
    by : (o : Option (Option RedoValue)) (k : Option Image) → IfSome o (λ redo. redo ≡ None) → HoldsLog o k → HoldsShelf class table (drain_with patch (runs_of patch)) k → HoldsLog (option_map (λ (redo : Option RedoValue). redo_with patch name (runs_of patch)) o) k
    by None k none held on = held
    by (Some redo) None none held on = tt
    by (Some redo) (Some image) none held on =
        let closed : IsClosed (image gate_name) = subst (λ (r : Option RedoValue). HoldsRedo r image) none held in
        holds_put patch name (runs_of patch) image closed
        (subst (λ (n : List ℕ). IfSome (drain_with patch (runs_of patch)) (λ drain. Awaits drain.patch drain.left (image n))) (sym named) (far_put class table patch (runs_of patch) image on))

-- the patch is of a metric that is kept from then on
pub kept_begun : (class : ℕ) (table table' : Table) (path : List ℕ) (known : Known) (patch : PatchValue) → IsOfClass class path → Sets table table' path (Some (once_more known)) → patch.path ≡ path → patch.layout ≡ known.layout
    → layout_fault known.layout.archives known.layout.factor ≡ None → IsOfKept class table' patch
kept_begun class table table' path known patch one sets its l lawful = record {
  legal = subst (λ (p : List ℕ). path_fault p ≡ None) (sym its) one.legal;
  here = subst (λ (p : List ℕ). class_of p ≡ class) (sym its) one.here;
  kept = ap (kept_form table') its ∙ ap form_kept sets.here ∙ ap (λ (m : LayoutValue). Some (2, m)) (sym l);
  lawful = subst (λ (m : LayoutValue). layout_fault m.archives m.factor ≡ None) (sym l) lawful;
}

-- ---- from the shard before its pick

-- a picker with the same queue and strategy stands for the same
pub holds_picked : (told : Option Image) (old : Inside) (picker : Picking) (s : State) → picker.queue ≡ old.picker.queue → picker.strategy ≡ old.picker.strategy → Holds told old s → Holds told (record old { picker = picker }) s
holds_picked told old picker s queue strategy holds = record {
  pending = holds.pending;
  queue = queue ∙ holds.queue;
  kept = holds.kept;
  drains = holds.drains;
  rules = holds.rules;
  limit = holds.limit;
  strategy = strategy ∙ holds.strategy;
}

pub begins_from : (old new : Inside) (picker : Picking) (path : List ℕ) (now : ℕ) → picker.queue ≡ old.picker.queue → picker.strategy ≡ old.picker.strategy → Begins (record old { picker = picker }) new path now → Begins old new path now
begins_from old new picker path now queue strategy begun = record {
  empty = begun.empty;
  here = begun.here;
  drains = λ told s holds. begun.drains told s (holds_picked told old picker s queue strategy holds);
  shelf = begun.shelf;
  log = begun.log;
  few = begun.few;
  nothing = begun.nothing;
  fewer = begun.fewer;
}
