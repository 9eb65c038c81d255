-- A run is written, or not: what the disk under the shelf keeps stays.
use Rattle.std.proofs.Common.{arith, ◌≡◌, inl, inr, ◌∙◌, ℕ, Bool, true, false, List, [], ◌∷◌, length, Option, Some, None, IfSome, IsSomeAnd, refl, sym, ap, subst, if◌then◌else◌}
use Rattle.std.specs.Prelude.{IsSome, drop, option_and_then, option_map, slice_get, unwrap_or}
use Rattle.std.proofs.lemmas.Option.{none-some}
use Rattle.std.specs.Str.{bytes_eq}
use Rattle.std.proofs.lemmas.Bool.{true≢false}
use Rattle.outside_io.specs.Image.{Image, WhereKnown}
use Rattle.metric_path.specs.FileName.{file_name_of}
use Rattle.metric_path.proofs.FileNameLemmas.{file_names_differ}
use Rattle.ring_format.specs.Layout.{LayoutValue, layout_fault}
use Rattle.ring_format.specs.Patch.{PatchValue}
use Rattle.ring_archive.specs.Ring.{IsRingFile, ReadsAs}
use Rattle.ring_writer.specs.PartWritten.{Awaits, ComesTo, FailsNext, IsPartWritten, RunTorn, RunWritten, WritesNext}
use Rattle.ring_writer.proofs.PartLemmas.{part_laid}
use Rattle.write_shelf.specs.Shelf.{DrainValue, IsBegun, IsRunOf, OfNext, drain_with, marked}
use Rattle.write_shelf.specs.declared.run.Run.{Run}
use Rattle.write_shelf.specs.declared.run.Run.TheVariants.{Create, Cells, Head}
use Rattle.redo_log.specs.Steps.{RedoValue}
use Rattle.carbon_model.specs.State.{Kept}
use Rattle.carbon_model.specs.RingFiles.{IsOfClass, SameKept, StandsUnder, is_patched, is_sound, kept_in, kept_on, kept_through}
use Rattle.shard_core.specs.Shard.{HasFiles, HoldsKept, HoldsShelf, Inside, IsLawfulRing, IsOfKept, Stays, patch_on}
use Rattle.shard_core.specs.Table.{Table, kept_form}
use Rattle.shard_core.specs.Work.{RunFails, RunsOn}
use Rattle.shard_core.proofs.FileLemmas.{itself, ring_is_kept, ring_is_sound, same_text}
use Rattle.shard_core.proofs.ReadingLemmas.{any_path, from_under, under_from}
use Rattle.shard_core.proofs.StandLemmas.{stands_moved}

is_there : (held : Option (List ℕ)) (layout : LayoutValue) → IsSomeAnd held (IsRingFile layout) → IsSomeAnd held (λ file. Unit {0})
is_there None layout ring = absurd ring
is_there (Some file) layout ring = tt

-- the file of a patch whose runs are all written
alone_held : (held : Option (List ℕ)) (patch : PatchValue) (k : Kept) → layout_fault patch.layout.archives patch.layout.factor ≡ None → IsSomeAnd held (IsPartWritten patch []) → 2 ≡ k.version → patch.layout ≡ k.layout
    → ReadsAs patch (unwrap_or held []) k.rings → SameKept (option_and_then kept_in held) (Some k) × IfSome held (λ file. is_sound file ≡ true)
alone_held None patch k lawful part v l reads = absurd part
alone_held (Some file) patch k lawful part v l reads =
    let laid = part_laid patch file lawful part in
    let alone = any_path patch.path [] patch.layout file k.rings (laid.reads k.rings reads) in (
      subst (λ (o : Option Kept). SameKept o (Some k)) (sym (ring_is_kept 2 patch.layout file (inr refl) lawful laid.whole)) (v, l, alone),
      ring_is_sound 2 patch.layout file (inr refl) lawful laid.whole,
    )

-- what the patch means stays
through_moves : (before after : Image) (patch : PatchValue) (left : List Run) (k : Kept) → (patch.fresh ≡ false → IsSomeAnd (before (file_name_of patch.path)) (IsRingFile patch.layout))
    → ComesTo patch left (file_name_of patch.path) before after → SameKept (Some (kept_through patch (before (file_name_of patch.path)))) (Some k)
    → (2 ≡ k.version) × (patch.layout ≡ k.layout) × ReadsAs patch (unwrap_or (after (file_name_of patch.path)) []) k.rings
through_moves before after patch left k ring comes same = (
  same.0,
  same.1,
  from_under patch after (file_name_of patch.path) k.rings
      (comes.reads k.rings
      (under_from patch (before (file_name_of patch.path)) before (file_name_of patch.path) k.rings refl (λ old. is_there (before (file_name_of patch.path)) patch.layout (ring old)) same.2)),
)

-- the runs that are left stand on the shelf, and with none the disk stands alone
pub write_stands : (opening before after : Image) (patch : PatchValue) (left : List Run) (kept : List ℕ → Option Kept) (class : ℕ) → IsOfClass class patch.path
    → layout_fault patch.layout.archives patch.layout.factor ≡ None
    → (patch.fresh ≡ false → IsSomeAnd (before (file_name_of patch.path)) (IsRingFile patch.layout))
    → ComesTo patch left (file_name_of patch.path) before after
    → (patch.fresh ≡ false → IsSomeAnd (after (file_name_of patch.path)) (IsRingFile patch.layout))
    → StandsUnder opening before (Some patch) kept class → StandsUnder opening after (patch_on (drain_with patch left)) kept class
write_stands opening before after patch left kept class one lawful ring comes ring' stands =
    by (kept patch.path) refl (subst (λ (b : Bool). SameKept (if b then Some (kept_through patch (before (file_name_of patch.path))) else kept_on before patch.path) (kept patch.path)) (itself patch.path) (stands.rings patch.path one))
  where
    with_left : (runs : List Run) (k : Kept) → left ≡ runs → kept patch.path ≡ Some k → (2 ≡ k.version) × (patch.layout ≡ k.layout) × ReadsAs patch (unwrap_or (after (file_name_of patch.path)) []) k.rings
        → StandsUnder opening after (patch_on (drain_with patch runs)) kept class
    with_left [] k none is moved =
        let far : IsSomeAnd (after (file_name_of patch.path)) (IsPartWritten patch []) = subst (λ (rs : List Run). Awaits patch rs (after (file_name_of patch.path))) none comes.far in
        let alone = alone_held (after (file_name_of patch.path)) patch k lawful far moved.0 moved.1 moved.2 in
        stands_moved opening before after (Some patch) None kept kept class patch.path one refl tt comes.others (λ p e. refl) (rw is alone.0) (λ _. alone.1) tt stands
    with_left (run ∷ runs) k some is moved =
        stands_moved opening before after (Some patch) (Some patch) kept kept class patch.path one refl refl comes.others (λ p e. refl) (rw (itself patch.path, is) moved)
        (λ apart. absurd (true≢false (sym (itself patch.path) ∙ apart))) ring' stands

    by : (k : Option Kept) → kept patch.path ≡ k → SameKept (Some (kept_through patch (before (file_name_of patch.path)))) (kept patch.path) → StandsUnder opening after (patch_on (drain_with patch left)) kept class
    by None is same = absurd (rw is at same)
    by (Some k) is same = with_left left k refl is (through_moves before after patch left k ring comes (rw is at same))

pub write_holds : (told : Option Image) (known known' : Option Image) (class : ℕ) (table : Table) (patch : PatchValue) (left : List Run) (kept : List ℕ → Option Kept) → IsOfKept class table patch
    → IfSome known (λ image. patch.fresh ≡ false → IsSomeAnd (image (file_name_of patch.path)) (IsRingFile patch.layout))
    → WhereKnown known known' (ComesTo patch left (file_name_of patch.path))
    → IfSome known' (λ image. patch.fresh ≡ false → IsSomeAnd (image (file_name_of patch.path)) (IsRingFile patch.layout))
    → HoldsKept told class table (Some patch) known kept → HoldsKept told class table (patch_on (drain_with patch left)) known' kept
write_holds told known known' class table patch left kept its ring comes ring' holds = record {
  layouts = holds.layouts;
  files = by told known known' ring comes ring' holds.files;
}
  where
    by : (t k k' : Option Image) → IfSome k (λ image. patch.fresh ≡ false → IsSomeAnd (image (file_name_of patch.path)) (IsRingFile patch.layout))
        → WhereKnown k k' (ComesTo patch left (file_name_of patch.path)) → IfSome k' (λ image. patch.fresh ≡ false → IsSomeAnd (image (file_name_of patch.path)) (IsRingFile patch.layout))
        → WhereKnown t k (λ opening now. StandsUnder opening now (Some patch) kept class) → WhereKnown t k' (λ opening now. StandsUnder opening now (patch_on (drain_with patch left)) kept class)
    by None None None r c r' files = tt
    by None None (Some after) r c r' files = absurd c
    by None (Some before) k' r c r' files = absurd files
    by (Some opening) None k' r c r' files = absurd files
    by (Some opening) (Some before) None r c r' files = absurd c
    by (Some opening) (Some before) (Some after) r c r' files =
        write_stands opening before after patch left kept class (record { legal = its.legal; here = its.here }) its.lawful r c r' files

-- ---- the file of the patch

-- a run that is next of a patch that is not fresh needs the ring file whole
awaits_ring : (patch : PatchValue) (run : Run) (runs : List Run) (held : Option (List ℕ)) → IsRunOf patch run → patch.fresh ≡ false → Awaits patch (run ∷ runs) held → IsSomeAnd held (IsRingFile patch.layout)
awaits_ring patch (Create size) runs held sound old far = absurd (true≢false (sym sound.0 ∙ old))
awaits_ring patch (Cells archive slot count) runs None sound old far = absurd far
awaits_ring patch (Cells archive slot count) runs (Some file) sound old far = far.head (inl old)
awaits_ring patch Head runs held sound old far = absurd (true≢false (sym sound ∙ old))

-- and with none left it is whole
none_ring : (patch : PatchValue) (held : Option (List ℕ)) → Awaits patch [] held → IsSomeAnd held (IsRingFile patch.layout)
none_ring patch None far = absurd far
none_ring patch (Some file) far = far.head (inr refl)

pub far_ring : (patch : PatchValue) (left : List Run) (held : Option (List ℕ)) → IfSome (slice_get left 0) (IsRunOf patch) → patch.fresh ≡ false → Awaits patch left held → IsSomeAnd held (IsRingFile patch.layout)
far_ring patch [] held sound old far = none_ring patch held far
far_ring patch (run ∷ runs) held sound old far = awaits_ring patch run runs held sound old far

-- the other files are there still, and that of a patch whose runs are all written is too
pub write_files : (class : ℕ) (table : Table) (patch : PatchValue) (left : List Run) (known known' : Option Image) → IsOfKept class table patch → WhereKnown known known' (ComesTo patch left (file_name_of patch.path))
    → HasFiles class table (Some patch) known → HasFiles class table (patch_on (drain_with patch left)) known'
write_files class table patch left None None its comes files = tt
write_files class table patch left None (Some after) its comes files = absurd comes
write_files class table patch left (Some before) None its comes files = absurd comes
write_files class table patch left (Some before) (Some after) its comes files = λ path legal one apart. elim (same_text path patch.path) [
  | inl same ↦ subst (λ (q : List ℕ). IfSome (kept_form table q) (λ form. IsSomeAnd (after (file_name_of q)) (IsLawfulRing form.0 form.1))) (sym same.1)
      (rw its.kept (own left refl (subst (λ (q : List ℕ). is_patched (patch_on (drain_with patch left)) q ≡ false) same.1 apart)))
  | inr other ↦ subst (λ (held : Option (List ℕ)). IfSome (kept_form table path) (λ form. IsSomeAnd held (IsLawfulRing form.0 form.1)))
      (sym (comes.others (file_name_of path) (λ e. other.1 (file_names_differ path patch.path legal its.legal e))))
      (files path legal one (differs path other.1))
]
  where
    differs : (path : List ℕ) → (path ≡ patch.path → ⊥) → bytes_eq patch.path path ≡ false
    differs path other = elim (same_text patch.path path) [
      | inl same ↦ absurd (other (sym same.1))
      | inr apart ↦ apart.0
    ]

    lawful_held : (held : Option (List ℕ)) → IsSomeAnd held (IsRingFile patch.layout) → IsSomeAnd held (IsLawfulRing 2 patch.layout)
    lawful_held None ring = absurd ring
    lawful_held (Some file) ring = (its.lawful, ring)

    own : (runs : List Run) → left ≡ runs → is_patched (patch_on (drain_with patch left)) patch.path ≡ false → IsSomeAnd (after (file_name_of patch.path)) (IsLawfulRing 2 patch.layout)
    own [] none apart = lawful_held (after (file_name_of patch.path)) (none_ring patch (after (file_name_of patch.path)) (subst (λ (rs : List Run). Awaits patch rs (after (file_name_of patch.path))) none comes.far))
    own (run ∷ runs) some apart =
        absurd (true≢false (sym (itself patch.path) ∙ subst (λ (rs : List Run). is_patched (patch_on (drain_with patch rs)) patch.path ≡ false) some apart))

-- the patch that stays on the shelf is under way
pub write_shelf_holds : (class : ℕ) (table : Table) (patch : PatchValue) (left : List Run) (known known' : Option Image) → IsOfKept class table patch → IfSome (slice_get left 0) (IsRunOf patch)
    → WhereKnown known known' (ComesTo patch left (file_name_of patch.path)) → HoldsShelf class table (drain_with patch left) known'
write_shelf_holds class table patch [] known known' its sound comes = tt
write_shelf_holds class table patch (run ∷ runs) None None its sound comes = (its, tt)
write_shelf_holds class table patch (run ∷ runs) None (Some after) its sound comes = absurd comes
write_shelf_holds class table patch (run ∷ runs) (Some before) None its sound comes = absurd comes
write_shelf_holds class table patch (run ∷ runs) (Some before) (Some after) its sound comes = (
  its,
  record { far = comes.far; ring = λ old. far_ring patch (run ∷ runs) (after (file_name_of patch.path)) sound old comes.far },
)

-- ---- the shelf

-- the name of the file that is being written
abbrev pub IsNamed : Option DrainValue → List ℕ → Type 0
IsNamed shelf name = Some name ≡ option_map (λ drain. file_name_of drain.patch.path) shelf

pub its_name : (drain : DrainValue) (name : List ℕ) → IsNamed (Some drain) name → name ≡ file_name_of drain.patch.path
its_name drain name named = ap (λ (o : Option (List ℕ)). unwrap_or o name) named

-- a drain has a run left
left_again : (drain : DrainValue) → IsBegun drain → drain_with drain.patch drain.left ≡ Some drain
left_again drain begun = by drain.left refl
  where
    by : (left : List Run) → drain.left ≡ left → drain_with drain.patch drain.left ≡ Some drain
    by [] none = absurd (omega (arith, begun.some, ap length none))
    by (run ∷ runs) some = ap (drain_with drain.patch) some ∙ ap (λ (runs : List Run). Some (record { patch = drain.patch; left = runs })) (sym some)

pub next_sound : (patch : PatchValue) (left : List Run) → OfNext (drain_with patch left) IsRunOf → IfSome (slice_get left 0) (IsRunOf patch)
next_sound patch [] sound = tt
next_sound patch (run ∷ runs) sound = sound

ring_before : (class : ℕ) (table : Table) (drain : DrainValue) (known : Option Image) → HoldsShelf class table (Some drain) known
    → IfSome known (λ image. drain.patch.fresh ≡ false → IsSomeAnd (image (file_name_of drain.patch.path)) (IsRingFile drain.patch.layout))
ring_before class table drain None on = tt
ring_before class table drain (Some image) on = on.1.ring

ring_after : (patch : PatchValue) (left : List Run) (known known' : Option Image) → IfSome (slice_get left 0) (IsRunOf patch) → WhereKnown known known' (ComesTo patch left (file_name_of patch.path))
    → IfSome known' (λ image. patch.fresh ≡ false → IsSomeAnd (image (file_name_of patch.path)) (IsRingFile patch.layout))
ring_after patch left known None sound comes = tt
ring_after patch left None (Some after) sound comes = absurd comes
ring_after patch left (Some before) (Some after) sound comes = λ old. far_ring patch left (after (file_name_of patch.path)) sound old comes.far

-- A call of the disk came to these runs that are left of the drain on a shelf.
record Came (class : ℕ) (table : Table) (drain : DrainValue) (left : List Run) (known known' : Option Image) : Type 0 where
  on : HoldsShelf class table (Some drain) known
  sound : IfSome (slice_get left 0) (IsRunOf drain.patch)
  comes : WhereKnown known known' (ComesTo drain.patch left (file_name_of drain.patch.path))

came_files : (class : ℕ) (table : Table) (drain : DrainValue) (left : List Run) (known known' : Option Image) → Came class table drain left known known' → HasFiles class table (Some drain.patch) known
    → HasFiles class table (patch_on (drain_with drain.patch left)) known'
came_files class table drain left known known' came files = write_files class table drain.patch left known known' came.on.0 came.comes files

came_shelf : (class : ℕ) (table : Table) (drain : DrainValue) (left : List Run) (known known' : Option Image) → Came class table drain left known known' → HoldsShelf class table (drain_with drain.patch left) known'
came_shelf class table drain left known known' came = write_shelf_holds class table drain.patch left known known' came.on.0 came.sound came.comes

came_kept : (told : Option Image) (class : ℕ) (table : Table) (drain : DrainValue) (left : List Run) (known known' : Option Image) (kept : List ℕ → Option Kept) → Came class table drain left known known'
    → HoldsKept told class table (Some drain.patch) known kept → HoldsKept told class table (patch_on (drain_with drain.patch left)) known' kept
came_kept told class table drain left known known' kept came holds =
    write_holds told known known' class table drain.patch left kept came.on.0 (ring_before class table drain known came.on) came.comes (ring_after drain.patch left known known' came.sound came.comes) holds

-- what stands for a state stands for it still, where all but the shelf and the disk is as before
pub stays_kept : (old : Inside) (shelf : Option DrainValue) (steps : ℕ) (log : Option (Option RedoValue)) (known : Option Image)
    → ((told : Option Image) (kept : List ℕ → Option Kept) → HoldsKept told old.class old.table (patch_on old.shelf) old.known kept → HoldsKept told old.class old.table (patch_on shelf) known kept)
    → Stays old (record old { shelf = shelf; steps = steps; log = log; known = known })
stays_kept old shelf steps log known keeps told s holds = record {
  pending = holds.pending;
  queue = holds.queue;
  kept = keeps told s.kept holds.kept;
  drains = holds.drains;
  rules = holds.rules;
  limit = holds.limit;
  strategy = holds.strategy;
}

-- ---- a run is written

-- what follows from a fact on a call
pub known_so : (P Q : Image → Image → Type 0) → ((x y : Image) → P x y → Q x y) → (a b : Option Image) → WhereKnown a b P → WhereKnown a b Q
known_so P Q more None None p = tt
known_so P Q more None (Some y) p = absurd p
known_so P Q more (Some x) None p = absurd p
known_so P Q more (Some x) (Some y) p = more x y p

-- the run is written to the file of its patch
pub written_there : (old : Option DrainValue) (name : List ℕ) (known known' : Option Image) → IsNamed old name → WhereKnown known known' (WritesNext old name)
    → WhereKnown known known' (λ before after. IfSome old (λ drain. RunWritten drain (file_name_of drain.patch.path) before after))
written_there None name known known' named writes = absurd (none-some name (sym named))
written_there (Some drain) name known known' named writes =
    subst (λ (n : List ℕ). WhereKnown known known' (RunWritten drain n)) (its_name drain name named) writes

pub torn_there : (old : Option DrainValue) (name : List ℕ) (known known' : Option Image) → IsNamed old name → WhereKnown known known' (FailsNext old name)
    → WhereKnown known known' (λ before after. IfSome old (λ drain. RunTorn drain (file_name_of drain.patch.path) before after))
torn_there None name known known' named fails = absurd (none-some name (sym named))
torn_there (Some drain) name known known' named fails =
    subst (λ (n : List ℕ). WhereKnown known known' (RunTorn drain n)) (its_name drain name named) fails

-- the shelf and the disk after a run was written
pub record Written (class : ℕ) (table : Table) (old new : Option DrainValue) (known known' : Option Image) : Type 0 where
  pub files : HasFiles class table (patch_on old) known → HasFiles class table (patch_on new) known'
  pub shelf : HoldsShelf class table new known'
  pub kept : (told : Option Image) (kept : List ℕ → Option Kept) → HoldsKept told class table (patch_on old) known kept → HoldsKept told class table (patch_on new) known' kept

named_by : (drain : DrainValue) (left : List Run) → IsSome (drain_with drain.patch left)
    → Some (file_name_of drain.patch.path) ≡ option_map (λ d. file_name_of d.patch.path) (drain_with drain.patch left)
named_by drain [] some = absurd cc
named_by drain (run ∷ left) some = refl

-- the name of the file stays while runs are left
pub still_named : (old new : Option DrainValue) (name : Option (List ℕ)) → name ≡ option_map (λ drain. file_name_of drain.patch.path) old → new ≡ marked old → IsSome new
    → name ≡ option_map (λ drain. file_name_of drain.patch.path) new
still_named None new name named mark some = let none : IsSome (marked None) = subst (λ (o : Option DrainValue). IsSome o) mark some in absurd cc
still_named (Some drain) new name named mark some =
    named ∙ named_by drain (drop 1 drain.left) (subst (λ (o : Option DrainValue). IsSome o) mark some) ∙ sym (ap (option_map (λ (d : DrainValue). file_name_of d.patch.path)) mark)

-- ---- straight to the file

pub written_straight : (class : ℕ) (table : Table) (old new : Option DrainValue) (known known' : Option Image) → RunsOn old new known known' → HoldsShelf class table old known → Written class table old new known known'
written_straight class table None new known known' runs on = absurd cc
written_straight class table (Some drain) new known known' runs on =
    let came : Came class table drain (drop 1 drain.left) known known' = record {
      on = on;
      sound = next_sound drain.patch (drop 1 drain.left) (subst (λ (o : Option DrainValue). OfNext o IsRunOf) runs.marked runs.sound);
      comes = known_so (RunWritten drain (file_name_of drain.patch.path)) (ComesTo drain.patch (drop 1 drain.left) (file_name_of drain.patch.path)) (λ x y written. written.comes) known known' runs.written;
    } in subst (λ (o : Option DrainValue). Written class table (Some drain) o known known') (sym runs.marked) (record {
      files = came_files class table drain (drop 1 drain.left) known known' came;
      shelf = came_shelf class table drain (drop 1 drain.left) known known' came;
      kept = λ told kept. came_kept told class table drain (drop 1 drain.left) known known' kept came;
    })

pub failed_straight : (class : ℕ) (table : Table) (old new : Option DrainValue) (known known' : Option Image) → RunFails old new known known' → HoldsShelf class table old known → Written class table old new known known'
failed_straight class table None new known known' fails on = absurd cc
failed_straight class table (Some drain) new known known' fails on =
    let came : Came class table drain drain.left known known' = record {
      on = on;
      sound = fails.sound;
      comes = known_so (RunTorn drain (file_name_of drain.patch.path)) (ComesTo drain.patch drain.left (file_name_of drain.patch.path)) (λ x y torn. torn.comes) known known' fails.torn;
    } in subst (λ (o : Option DrainValue). Written class table (Some drain) o known known') (sym fails.same)
    (subst (λ (o : Option DrainValue). Written class table (Some drain) o known known') (left_again drain fails.begun) (record {
      files = came_files class table drain drain.left known known' came;
      shelf = came_shelf class table drain drain.left known known' came;
      kept = λ told kept. came_kept told class table drain drain.left known known' kept came;
    }))

-- ---- a patch that stays

-- with its runs written or not
under_stands : (opening before after : Image) (patch : PatchValue) (left : List Run) (kept : List ℕ → Option Kept) (class : ℕ) → IsOfClass class patch.path → (patch.fresh ≡ false → IsSomeAnd (before (file_name_of patch.path)) (IsRingFile patch.layout))
    → ComesTo patch left (file_name_of patch.path) before after → (patch.fresh ≡ false → IsSomeAnd (after (file_name_of patch.path)) (IsRingFile patch.layout))
    → StandsUnder opening before (Some patch) kept class → StandsUnder opening after (Some patch) kept class
under_stands opening before after patch left kept class one ring comes ring' stands =
    by (kept patch.path) refl (subst (λ (b : Bool). SameKept (if b then Some (kept_through patch (before (file_name_of patch.path))) else kept_on before patch.path) (kept patch.path)) (itself patch.path) (stands.rings patch.path one))
  where
    by : (k : Option Kept) → kept patch.path ≡ k → SameKept (Some (kept_through patch (before (file_name_of patch.path)))) (kept patch.path) → StandsUnder opening after (Some patch) kept class
    by None is same = absurd (rw is at same)
    by (Some k) is same =
        let moved = through_moves before after patch left k ring comes (rw is at same) in
        stands_moved opening before after (Some patch) (Some patch) kept kept class patch.path one refl refl comes.others (λ p e. refl) (rw (itself patch.path, is) moved)
        (λ apart. absurd (true≢false (sym (itself patch.path) ∙ apart))) ring' stands

under_files : (class : ℕ) (table : Table) (patch : PatchValue) (left : List Run) (x y : Image) → IsOfKept class table patch → ComesTo patch left (file_name_of patch.path) x y → HasFiles class table (Some patch) (Some x) → HasFiles class table (Some patch) (Some y)
under_files class table patch left x y its comes files = λ path legal one apart. elim (same_text path patch.path) [
  | inl same ↦ absurd (true≢false (sym (itself patch.path) ∙ subst (λ (q : List ℕ). bytes_eq patch.path q ≡ false) same.1 apart))
  | inr other ↦ subst (λ (held : Option (List ℕ)). IfSome (kept_form table path) (λ form. IsSomeAnd held (IsLawfulRing form.0 form.1)))
      (sym (comes.others (file_name_of path) (λ e. other.1 (file_names_differ path patch.path legal its.legal e))))
      (files path legal one apart)
]

under_kept : (told : Option Image) (class : ℕ) (table : Table) (patch : PatchValue) (left : List Run) (x y : Image) (kept : List ℕ → Option Kept) → IsOfKept class table patch → (patch.fresh ≡ false → IsSomeAnd (x (file_name_of patch.path)) (IsRingFile patch.layout))
    → ComesTo patch left (file_name_of patch.path) x y → (patch.fresh ≡ false → IsSomeAnd (y (file_name_of patch.path)) (IsRingFile patch.layout)) → HoldsKept told class table (Some patch) (Some x) kept → HoldsKept told class table (Some patch) (Some y) kept
under_kept told class table patch left x y kept its ring comes ring' holds = record { layouts = holds.layouts; files = by told holds.files }
  where
    by : (t : Option Image) → WhereKnown t (Some x) (λ opening now. StandsUnder opening now (Some patch) kept class) → WhereKnown t (Some y) (λ opening now. StandsUnder opening now (Some patch) kept class)
    by None files = absurd files
    by (Some opening) files = under_stands opening x y patch left kept class (record { legal = its.legal; here = its.here }) ring comes ring' files

pub under_written : (class : ℕ) (table : Table) (patch : PatchValue) (left left' : List Run) (known known' : Option Image) → HoldsShelf class table (Some (record { patch = patch; left = left })) known → IfSome (slice_get left' 0) (IsRunOf patch)
    → WhereKnown known known' (ComesTo patch left' (file_name_of patch.path)) → Written class table (Some (record { patch = patch; left = left })) (Some (record { patch = patch; left = left' })) known known'
under_written class table patch left left' None None on sound comes = record { files = λ files. files; shelf = (on.0, tt); kept = λ told kept holds. holds }
under_written class table patch left left' None (Some y) on sound comes = absurd comes
under_written class table patch left left' (Some x) None on sound comes = absurd comes
under_written class table patch left left' (Some x) (Some y) on sound comes =
    let ring : patch.fresh ≡ false → IsSomeAnd (y (file_name_of patch.path)) (IsRingFile patch.layout) = λ old. far_ring patch left' (y (file_name_of patch.path)) sound old comes.far in
    record {
      files = under_files class table patch left' x y on.0 comes;
      shelf = (on.0, record { far = comes.far; ring = ring });
      kept = λ told kept. under_kept told class table patch left' x y kept on.0 on.1.ring comes ring;
    }

-- ---- a patch that leaves

pub alone_stands : (opening image : Image) (patch : PatchValue) (kept : List ℕ → Option Kept) (class : ℕ) → IsOfClass class patch.path → layout_fault patch.layout.archives patch.layout.factor ≡ None → Awaits patch [] (image (file_name_of patch.path))
    → StandsUnder opening image (Some patch) kept class → StandsUnder opening image None kept class
alone_stands opening image patch kept class one lawful far stands =
    by (kept patch.path) refl (subst (λ (b : Bool). SameKept (if b then Some (kept_through patch (image (file_name_of patch.path))) else kept_on image patch.path) (kept patch.path)) (itself patch.path) (stands.rings patch.path one))
  where
    by : (k : Option Kept) → kept patch.path ≡ k → SameKept (Some (kept_through patch (image (file_name_of patch.path)))) (kept patch.path) → StandsUnder opening image None kept class
    by None is same = absurd (rw is at same)
    by (Some k) is same =
        let it : SameKept (Some (kept_through patch (image (file_name_of patch.path)))) (Some k) = rw is at same in
        let alone = alone_held (image (file_name_of patch.path)) patch k lawful far it.0 it.1 it.2 in
        stands_moved opening image image (Some patch) None kept kept class patch.path one refl tt (λ name apart. refl) (λ p e. refl) (rw is alone.0) (λ _. alone.1) tt stands

alone_files : (class : ℕ) (table : Table) (patch : PatchValue) (image : Image) → IsOfKept class table patch → Awaits patch [] (image (file_name_of patch.path)) → HasFiles class table (Some patch) (Some image) → HasFiles class table None (Some image)
alone_files class table patch image its far files = λ path legal one apart. elim (same_text path patch.path) [
  | inl same ↦ subst (λ (q : List ℕ). IfSome (kept_form table q) (λ form. IsSomeAnd (image (file_name_of q)) (IsLawfulRing form.0 form.1))) (sym same.1)
      (rw its.kept (lawful_held (image (file_name_of patch.path)) (none_ring patch (image (file_name_of patch.path)) far)))
  | inr other ↦ files path legal one (differs path other.1)
]
  where
    differs : (path : List ℕ) → (path ≡ patch.path → ⊥) → bytes_eq patch.path path ≡ false
    differs path other = elim (same_text patch.path path) [
      | inl same ↦ absurd (other (sym same.1))
      | inr apart ↦ apart.0
    ]

    lawful_held : (held : Option (List ℕ)) → IsSomeAnd held (IsRingFile patch.layout) → IsSomeAnd held (IsLawfulRing 2 patch.layout)
    lawful_held None ring = absurd ring
    lawful_held (Some file) ring = (its.lawful, ring)

pub stands_alone : (class : ℕ) (table : Table) (patch : PatchValue) (x y : Image) → Written class table (Some (record { patch = patch; left = [] })) (Some (record { patch = patch; left = [] })) (Some x) (Some y)
    → Written class table (Some (record { patch = patch; left = [] })) None (Some x) (Some y)
stands_alone class table patch x y written = record {
  files = λ files. alone_files class table patch y written.shelf.0 written.shelf.1.far (written.files files);
  shelf = tt;
  kept = λ told kept holds. by told kept (written.kept told kept holds);
}
  where
    by : (told : Option Image) (kept : List ℕ → Option Kept) → HoldsKept told class table (Some patch) (Some y) kept → HoldsKept told class table None (Some y) kept
    by None kept holds = absurd holds.files
    by (Some opening) kept holds = record {
      layouts = holds.layouts;
      files = alone_stands opening y patch kept class (record { legal = written.shelf.0.legal; here = written.shelf.0.here }) written.shelf.0.lawful written.shelf.1.far holds.files;
    }
