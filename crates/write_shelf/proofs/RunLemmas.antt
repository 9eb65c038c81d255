-- The runs from a place on.
use Rattle.std.proofs.Common.{◌≡◌, ◌∙◌, ℕ, zero, suc, ℤ, ◌+◌, ◌-◌, ◌<◌, ◌≤◌, false, ◌&&◌, ◌==◌, nat_lt, List, [], ◌∷◌, ◌++◌, Option, Some, None, IsSome, slice_get, get_or, inl, inr, refl, sym, ap, subst, arith, All, append_assoc}
use Rattle.std.specs.List.{AllByRecursion}
use Rattle.std.specs.List.Sorted.{IsStrictlySortedBy}
use Rattle.std.specs.Map.{keys_of}
use Rattle.std.proofs.lemmas.Bool.{cond-true, cond-false, and_from, and_left, and_right, eq-eqb, lt-ltb}
use Rattle.std.proofs.lemmas.Option.{IfSome_then}
use Rattle.std.proofs.lemmas.Option.{slice_get-get_or}
use Rattle.ring_format.specs.declared.archive.Archive.{Archive}
use Rattle.ring_format.specs.Layout.{LayoutValue, point_count}
use Rattle.ring_format.specs.Patch.{Cells as Laid, IsPlace, PatchValue, cell_at, first_cell_from, place_cmp}
use Rattle.ring_format.proofs.LawfulLayouts.{points_within}
use Rattle.write_shelf.specs.Behind.{IsFirstOf, IsRunLength, places_from, runs_behind, runs_from}
use Rattle.write_shelf.specs.Runs.{last_runs, runs_in, runs_on}
use Rattle.write_shelf.specs.Shelf.{AreLaid, IsBegun}
use Rattle.write_shelf.specs.declared.run.Run.{Run}
use Rattle.write_shelf.specs.declared.run.Run.TheVariants.{Cells}
use Rattle.write_shelf.proofs.OrderLemmas.{found_first, found_laid, laid_first, laid_holds, none_found, unlaid_none}

-- a run goes on with the next slot
pub goes_on : (archive slot count : ℕ) (places : List (ℕ × ℕ)) → count < 341 → runs_on archive slot count ((archive, slot + count) ∷ places) ≡ runs_on archive slot (count + 1) places
goes_on archive slot count places few =
    cond-true _ _ _ (and_from (archive == archive && slot + count == slot + count) (nat_lt count 341) (and_from (archive == archive) (slot + count == slot + count) (eq-eqb archive archive refl) (eq-eqb (slot + count) (slot + count) refl)) (lt-ltb count 341 few))

-- a run ends before another place, and where it is full
ends_before : (archive slot count : ℕ) (places : List (ℕ × ℕ)) → AllByRecursion (λ place. (archive == place.0 && slot + count == place.1) ≡ false) places
    → runs_on archive slot count places ≡ Cells archive slot count ∷ runs_in places
ends_before archive slot count [] none = refl
ends_before archive slot count (place ∷ places) none = cond-false _ _ _ (and_left (archive == place.0 && slot + count == place.1) (nat_lt count 341) none.0)

pub ends_full : (archive slot count : ℕ) (places : List (ℕ × ℕ)) → nat_lt count 341 ≡ false → runs_on archive slot count places ≡ Cells archive slot count ∷ runs_in places
ends_full archive slot count [] full = refl
ends_full archive slot count (place ∷ places) full = cond-false _ _ _ (and_right (archive == place.0 && slot + count == place.1) (nat_lt count 341) full)

-- the first slots of a run are taken
taken : (cells : Laid) (archive slot count k : ℕ) → IsStrictlySortedBy place_cmp (keys_of cells) → IsRunLength cells archive slot count → k < count
    → runs_in (places_from (keys_of cells) (archive, slot)) ≡ runs_on archive slot (k + 1) (places_from (keys_of cells) (archive, slot + (k + 1)))
taken cells archive slot count zero rise run below =
    let here : slot + 0 ≡ slot = omega arith in
    let laid : IsSome (cell_at cells (archive, slot)) = subst (λ (s : ℕ). IsSome (cell_at cells (archive, s))) here (run.laid 0 below) in
    ap runs_in (laid_first cells (archive, slot) rise laid)
taken cells archive slot count (suc k) rise run below =
    let first = taken cells archive slot count k rise run (omega arith) in
    let laid : IsSome (cell_at cells (archive, slot + (k + 1))) = run.laid (k + 1) (omega arith) in
    let next = ap (runs_on archive slot (k + 1)) (laid_first cells (archive, slot + (k + 1)) rise laid) in
    let more = goes_on archive slot (k + 1) (places_from (keys_of cells) (archive, (slot + (k + 1)) + 1)) (omega (arith, run.few)) in
    let counted : (k + 1) + 1 ≡ suc k + 1 = omega arith in
    let placed : (slot + (k + 1)) + 1 ≡ slot + (suc k + 1) = omega arith in
    first ∙ next ∙ more
    ∙ ap (λ (n : ℕ). runs_on archive slot n (places_from (keys_of cells) (archive, (slot + (k + 1)) + 1))) counted
    ∙ ap (λ (s : ℕ). runs_on archive slot (suc k + 1) (places_from (keys_of cells) (archive, s))) placed

-- the run is the first from its place on
run_first : (cells : Laid) (archive slot count : ℕ) → IsStrictlySortedBy place_cmp (keys_of cells) → IsRunLength cells archive slot count
    → runs_in (places_from (keys_of cells) (archive, slot)) ≡ Cells archive slot count ∷ runs_in (places_from (keys_of cells) (archive, slot + count))
run_first cells archive slot count rise run =
    let last : (count - 1) + 1 ≡ count = omega (arith, run.some) in
    let all : runs_in (places_from (keys_of cells) (archive, slot)) ≡ runs_on archive slot count (places_from (keys_of cells) (archive, slot + count))
    = subst (λ (n : ℕ). runs_in (places_from (keys_of cells) (archive, slot)) ≡ runs_on archive slot n (places_from (keys_of cells) (archive, slot + n))) last
    (taken cells archive slot count (count - 1) rise run (omega (arith, run.some))) in
    all ∙ (elim run.longest [
      | inl full ↦ ends_full archive slot count (places_from (keys_of cells) (archive, slot + count)) (ap (λ (n : ℕ). nat_lt n 341) full)
      | inr open_slot ↦ ends_before archive slot count (places_from (keys_of cells) (archive, slot + count)) (unlaid_none cells (archive, slot + count) open_slot)
    ])

-- the slots of a run lie in its archive
run_laid : (patch : PatchValue) (archive slot count : ℕ) → All (IsPlace patch.layout) (keys_of patch.cells) → All (λ place. place.1 < 4000000) (keys_of patch.cells) → IsRunLength patch.cells archive slot count
    → AreLaid patch archive slot count
run_laid patch archive slot count placed low run =
    let last : IsSome (cell_at patch.cells (archive, slot + (count - 1))) = run.laid (count - 1) (omega (arith, run.some)) in
    let at : IsPlace patch.layout (archive, slot + (count - 1)) = laid_holds (IsPlace patch.layout) patch.cells (archive, slot + (count - 1)) placed last in
    let small : slot + (count - 1) < 4000000 = laid_holds (λ (place : ℕ × ℕ). place.1 < 4000000) patch.cells (archive, slot + (count - 1)) low last in
    record {
      some = run.some;
      few = run.few;
      archived = at.0;
      within = IfSome_then (slice_get patch.layout.archives archive) at.1 (λ ring below. omega (arith, run.some));
      low = omega (arith, run.some);
      laid = run.laid;
    }

-- a run that begins with the first cell that is found from a place on
pub run_found : (patch : PatchValue) (from : ℕ × ℕ) (archive slot count : ℕ) (cell : ℕ × ℤ) → IsStrictlySortedBy place_cmp (keys_of patch.cells) → All (IsPlace patch.layout) (keys_of patch.cells)
    → All (λ place. place.1 < 4000000) (keys_of patch.cells) → first_cell_from patch.cells from ≡ Some ((archive, slot), cell) → IsRunLength patch.cells archive slot count
    → IsFirstOf (runs_from patch from) patch (Some (Cells archive slot count))
run_found patch from archive slot count cell rise placed low found run =
    let cells : Laid = patch.cells in
    let same : places_from (keys_of cells) from ≡ places_from (keys_of cells) (archive, slot)
    = found_first cells from ((archive, slot), cell) rise found ∙ sym (laid_first cells (archive, slot) rise (found_laid cells from ((archive, slot), cell) found)) in
    record {
      first = ap (λ (runs : List Run). runs ++ last_runs patch) (ap runs_in same ∙ run_first cells archive slot count rise run);
      sound = run_laid patch archive slot count placed low run;
    }

-- no run of cells is left where none is found
pub none_left : (patch : PatchValue) (from : ℕ × ℕ) (found : Option Run) → first_cell_from patch.cells from ≡ None → IsFirstOf (last_runs patch) patch found → IsFirstOf (runs_from patch from) patch found
none_left patch from found none first = record {
  first = ap (λ (places : List (ℕ × ℕ)). runs_in places ++ last_runs patch) (none_found patch.cells from none) ∙ first.first;
  sound = first.sound;
}

-- ---- slots are low

blank : Archive
blank = record { step = 0; points = 0 }

place_low : (layout : LayoutValue) (place : ℕ × ℕ) → point_count layout.archives ≤ 4000000 → IsPlace layout place → place.1 < 4000000
place_low layout place few is =
    let ring : slice_get layout.archives place.0 ≡ Some (get_or layout.archives place.0 blank) = slice_get-get_or layout.archives place.0 blank is.0 in
    let below : place.1 < (get_or layout.archives place.0 blank).points = rw ring at is.1 in
    omega (arith, points_within layout.archives place.0 blank is.0)

pub places_low : (layout : LayoutValue) (places : List (ℕ × ℕ)) → point_count layout.archives ≤ 4000000 → All (IsPlace layout) places → All (λ place. place.1 < 4000000) places
places_low layout places few placed = λ k d below. place_low layout (get_or places k d) few (placed k d below)

-- the slot behind laid ones
pub behind_low : (cells : Laid) (archive slot count : ℕ) → All (λ place. place.1 < 4000000) (keys_of cells) → 1 ≤ count → ((k : ℕ) → k < count → IsSome (cell_at cells (archive, slot + k))) → slot + count ≤ 4000000
behind_low cells archive slot count low some laid =
    let last : slot + (count - 1) < 4000000 = laid_holds (λ (place : ℕ × ℕ). place.1 < 4000000) cells (archive, slot + (count - 1)) low (laid (count - 1) (omega (arith, some))) in
    omega (arith, some)

-- ---- a run is written

-- the runs that are left are those behind the ones written, also when one more is
pub begun_more : (patch : PatchValue) (run next : Run) → IsBegun (record { patch = patch; left = run ∷ runs_behind patch run }) → runs_behind patch run ≡ next ∷ runs_behind patch next
    → IsBegun (record { patch = patch; left = next ∷ runs_behind patch next })
begun_more patch run next begun first = record {
  some = omega arith;
  written = begun.written ++ run ∷ [];
  runs = begun.runs ∙ ap (λ (runs : List Run). begun.written ++ run ∷ runs) first ∙ sym (append_assoc begun.written (run ∷ []) (next ∷ runs_behind patch next));
}
