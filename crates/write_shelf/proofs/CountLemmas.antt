-- How many runs a patch has: no more than the points of its archives, and two.
use Rattle.std.proofs.Common.{◌≡◌, ◌⊎◌, ℕ, ◌+◌, ◌<◌, ◌≤◌, Bool, true, false, cond, ◌&&◌, ◌==◌, nat_lt, List, [], ◌∷◌, ◌++◌, length, take, get_or, slice_get, Some, inl, inr, refl, sym, ap, arith, All, Ordering, Less, Equal, Greater, nat_cmp, length-append, length-take}
use Rattle.std.specs.List.Sorted.{IsStrictlySortedBy}
use Rattle.std.specs.Map.{keys_of}
use Rattle.std.specs.Ordering.{ordering_then}
use Rattle.std.proofs.lemmas.Bool.{cases_Bool, cond-true, cond-false}
use Rattle.std.proofs.lemmas.Cmp.{ranked}
use Rattle.std.proofs.lemmas.List.{take-take, get_or-take}
use Rattle.std.proofs.lemmas.List.Elements.{All-head, All-tail}
use Rattle.std.proofs.lemmas.Map.Keys.{sorted_head, sorted_tail}
use Rattle.std.proofs.lemmas.Option.{slice_get-get_or}
use Rattle.ring_format.specs.declared.archive.Archive.{Archive}
use Rattle.ring_format.specs.Layout.{LayoutValue, point_count}
use Rattle.ring_format.specs.LayoutFile.{file_size_of}
use Rattle.ring_format.specs.Patch.{IsPlace, PatchValue, place_cmp}
use Rattle.ring_format.proofs.LawfulLayouts.{points_within}
use Rattle.write_shelf.specs.Runs.{first_runs, last_runs, runs_in, runs_of, runs_on}
use Rattle.write_shelf.specs.declared.run.Run.{Run}
use Rattle.write_shelf.specs.declared.run.Run.TheVariants.{Create, Cells, Head}

blank : Archive
blank = record { step = 0; points = 0 }

-- the number of a place among the points of all archives
abbrev number_of : List Archive → ℕ × ℕ → ℕ
number_of archives place = point_count (take place.0 archives) + place.1

slot_low : (layout : LayoutValue) (place : ℕ × ℕ) → IsPlace layout place → place.1 < (get_or layout.archives place.0 blank).points
slot_low layout place is =
    let ring : slice_get layout.archives place.0 ≡ Some (get_or layout.archives place.0 blank) = slice_get-get_or layout.archives place.0 blank is.0 in
    rw ring at is.1

number_below : (layout : LayoutValue) (place : ℕ × ℕ) → IsPlace layout place → number_of layout.archives place < point_count layout.archives
number_below layout place is = omega (arith, points_within layout.archives place.0 blank is.0, slot_low layout place is)

-- the points up to the end of an archive come before those of a later one
points_before : (archives : List Archive) (a b : ℕ) → a < b → b ≤ length archives → point_count (take a archives) + (get_or archives a blank).points ≤ point_count (take b archives)
points_before archives a b less within =
    let all : a < length (take b archives) = omega (arith, length-take b archives) in
    let points = points_within (take b archives) a blank all in
    let front : point_count (take a (take b archives)) ≡ point_count (take a archives) = ap point_count (take-take a b archives (omega arith)) in
    let same : (get_or (take b archives) a blank).points ≡ (get_or archives a blank).points = ap (λ (archive : Archive). archive.points) (get_or-take b archives a blank less) in
    omega arith

then_less : (o p : Ordering) → ordering_then o p ≡ Less → (o ≡ Less) ⊎ ((o ≡ Equal) × (p ≡ Less))
then_less Less p e = inl refl
then_less Equal p e = inr (refl, e)
then_less Greater p e = absurd cc

number_rises : (layout : LayoutValue) (p q : ℕ × ℕ) → IsPlace layout p → IsPlace layout q → place_cmp p q ≡ Less → number_of layout.archives p < number_of layout.archives q
number_rises layout p q is other less = elim (then_less (nat_cmp p.0 q.0) (nat_cmp p.1 q.1) less) [
  | inl earlier ↦
      let before : p.0 < q.0 = ranked p.0 q.0 Less (sym earlier) in
      let within : q.0 < length layout.archives = other.0 in
      omega (arith, points_before layout.archives p.0 q.0 before (omega arith), slot_low layout p is)
  | inr tied ↦
      let same : p.0 ≡ q.0 = ranked p.0 q.0 Equal (sym tied.0) in
      let before : p.1 < q.1 = ranked p.1 q.1 Less (sym tied.1) in
      let front : point_count (take p.0 layout.archives) ≡ point_count (take q.0 layout.archives) = ap (λ (i : ℕ). point_count (take i layout.archives)) same in
      omega arith
]

-- places that rise are no more than the points
more_below : (layout : LayoutValue) (place : ℕ × ℕ) (places : List (ℕ × ℕ)) → IsStrictlySortedBy place_cmp (place ∷ places) → All (IsPlace layout) (place ∷ places)
    → number_of layout.archives place + length places < point_count layout.archives
more_below layout place [] rise placed = omega (arith, number_below layout place (All-head (IsPlace layout) place [] placed))
more_below layout place (later ∷ places) rise placed =
    let others : All (IsPlace layout) (later ∷ places) = All-tail (IsPlace layout) place (later ∷ places) placed in
    let is = All-head (IsPlace layout) place (later ∷ places) placed in
    let other = All-head (IsPlace layout) later places others in
    let more = more_below layout later places (sorted_tail place_cmp place (later ∷ places) rise) others in
    omega (arith, number_rises layout place later is other (sorted_head place_cmp place (later ∷ places) rise).0)

places_few : (layout : LayoutValue) (places : List (ℕ × ℕ)) → IsStrictlySortedBy place_cmp places → All (IsPlace layout) places → length places ≤ point_count layout.archives
places_few layout [] rise placed = omega arith
places_few layout (place ∷ places) rise placed = omega (arith, more_below layout place places rise placed)

-- a place begins at most one run
length-runs_on : (archive slot count : ℕ) (places : List (ℕ × ℕ)) → length (runs_on archive slot count places) ≤ length places + 1
length-runs_on archive slot count [] = omega arith
length-runs_on archive slot count (place ∷ places) = elim (cases_Bool ((archive == place.0 && slot + count == place.1) && nat_lt count 341)) [
  | inl hit ↦
      let same = ap length (cond-true _ (runs_on archive slot (count + 1) places) (Cells archive slot count ∷ runs_on place.0 place.1 1 places) hit) in
      omega (arith, same, length-runs_on archive slot (count + 1) places)
  | inr other ↦
      let same = ap length (cond-false _ (runs_on archive slot (count + 1) places) (Cells archive slot count ∷ runs_on place.0 place.1 1 places) other) in
      omega (arith, same, length-runs_on place.0 place.1 1 places)
]

length-runs_in : (places : List (ℕ × ℕ)) → length (runs_in places) ≤ length places
length-runs_in [] = omega arith
length-runs_in (place ∷ places) = omega (arith, length-runs_on place.0 place.1 1 places)

at_most_one : (b : Bool) (run : Run) → length (cond b (run ∷ []) []) ≤ 1
at_most_one true run = omega arith
at_most_one false run = omega arith

pub runs_few : (patch : PatchValue) → IsStrictlySortedBy place_cmp (keys_of patch.cells) → All (IsPlace patch.layout) (keys_of patch.cells) → point_count patch.layout.archives ≤ 4000000
    → length (runs_of patch) < 5000000
runs_few patch rise placed few =
    let cells : List Run = runs_in (keys_of patch.cells) in
    omega (
      arith,
      length-append (first_runs patch) (cells ++ last_runs patch),
      length-append cells (last_runs patch),
      at_most_one patch.fresh (Create (file_size_of patch.layout.archives)),
      at_most_one patch.fresh Head,
      length-runs_in (keys_of patch.cells),
      places_few patch.layout (keys_of patch.cells) rise placed,
    )
