-- Which slots a run writes.
use Rattle.std.proofs.Common.{◌≡◌, ◌≢◌, ◌∙◌, ◌⊎◌, ℕ, ℤ, ◌+◌, ◌-◌, ◌<◌, ◌==◌, Bool, true, false, cond, List, [], ◌∷◌, ◌++◌, flat_map, length, get_or, Contains, Option, None, Some, inl, inr, refl, sym, ap, subst, arith}
use Rattle.std.specs.Map.{keys_of}
use Rattle.std.specs.BTreeMap.{is_at}
use Rattle.std.proofs.lemmas.Bool.{cases_Bool, cases_lt, eqb-true, eqb-false}
use Rattle.std.proofs.lemmas.Grind.{flat_map-append}
use Rattle.std.proofs.lemmas.List.{get_or-map, length-map}
use Rattle.std.proofs.lemmas.List.Elements.{Contains-append_cases, Contains-append_left}
use Rattle.std.proofs.lemmas.List.FromFn.{get_or-map-range_with_len, length-map-range_with_len}
use Rattle.std.proofs.lemmas.Map.Entries.{place_from_lookup}
use Rattle.std.proofs.lemmas.Option.{get_or_from_slice_get, slice_get_within}
use Rattle.ring_format.specs.LayoutFile.{file_size_of}
use Rattle.ring_format.specs.Patch.{Cells as Laid, PatchValue, cell_at, place_cmp}
use Rattle.write_shelf.specs.AreRuns.{neighbours, places_in}
use Rattle.write_shelf.specs.Runs.{first_runs, last_runs, runs_in, runs_of}
use Rattle.write_shelf.specs.declared.run.Run.{Run}
use Rattle.write_shelf.specs.declared.run.Run.TheVariants.{Create, Cells, Head}
use Rattle.write_shelf.proofs.LawLemmas.{are_runs}
use Rattle.ring_writer.proofs.ReadLemmas.{same_place}

-- ---- neighbours

-- a slot of a run
pub in_neighbours : (archive slot count k : ℕ) → k < count → Contains (neighbours archive slot count) (archive, slot + k)
in_neighbours archive slot count k below = (
  k,
  omega (arith, length-map-range_with_len {X = ℕ × ℕ} (λ (s : ℕ). (archive, s)) slot count),
  get_or-map-range_with_len (λ (s : ℕ). (archive, s)) slot count k (slot + k) (archive, slot + k) below refl,
)

pub among : (archive slot count : ℕ) (place : ℕ × ℕ) → Contains (neighbours archive slot count) place → (k : ℕ) × (k < count) × ((archive, slot + k) ≡ place)
among archive slot count place there =
    let below : there.0 < count = omega (arith, there.1, length-map-range_with_len {X = ℕ × ℕ} (λ (s : ℕ). (archive, s)) slot count) in (
      there.0,
      below,
      sym (get_or-map-range_with_len (λ (s : ℕ). (archive, s)) slot count there.0 (slot + there.0) place below refl) ∙ there.2,
    )

-- a place is a slot of a run, or none
pub which : (archive slot count : ℕ) (place : ℕ × ℕ) → ((k : ℕ) × (k < count) × ((archive, slot + k) ≡ place)) ⊎ ((k : ℕ) → k < count → (archive, slot + k) ≢ place)
which archive slot count place = elim (cases_Bool (archive == place.0)) [
  | inr other ↦ inr (λ k below e. eqb-false archive place.0 other (ap (λ (p : ℕ × ℕ). p.0) e))
  | inl same ↦ elim (cases_lt place.1 slot) [
    | inl before ↦ inr (λ k below e. let at : slot + k ≡ place.1 = ap (λ (p : ℕ × ℕ). p.1) e in absurd (omega arith))
    | inr from ↦ elim (cases_lt place.1 (slot + count)) [
      | inr behind ↦ inr (λ k below e. let at : slot + k ≡ place.1 = ap (λ (p : ℕ × ℕ). p.1) e in absurd (omega arith))
      | inl within ↦
          let here : slot + (place.1 - slot) ≡ place.1 = omega arith in
          inl (place.1 - slot, omega arith, ap (λ (a : ℕ). (a, slot + (place.1 - slot))) (eqb-true archive place.0 same) ∙ ap (λ (s : ℕ). (place.0, s)) here)
    ]
  ]
]

-- a place that no run left writes is none of the first run's, nor of the others'
pub aside_of : (archive slot count : ℕ) (later : List Run) (place : ℕ × ℕ) → (Contains (flat_map places_in (Cells archive slot count ∷ later)) place → ⊥)
    → (k : ℕ) → k < count → (archive, slot + k) ≢ place
aside_of archive slot count later place none k below e =
    none (Contains-append_left (neighbours archive slot count) (flat_map places_in later) place (subst (Contains (neighbours archive slot count)) e (in_neighbours archive slot count k below)))

pub left_aside : (archive slot count : ℕ) (later : List Run) (place : ℕ × ℕ) → ((k : ℕ) → k < count → (archive, slot + k) ≢ place) → (Contains (flat_map places_in later) place → ⊥)
    → Contains (flat_map places_in (Cells archive slot count ∷ later)) place → ⊥
left_aside archive slot count later place differs none there =
    elim (Contains-append_cases (neighbours archive slot count) (flat_map places_in later) place there) [
      | inl own ↦ let at = among archive slot count place own in differs at.0 at.1 at.2
      | inr other ↦ none other
    ]

-- ---- all runs of a patch

no_first : (b : Bool) (size : ℕ) → flat_map places_in (cond b (Create size ∷ []) []) ≡ []
no_first true size = refl
no_first false size = refl

no_last : (b : Bool) → flat_map places_in (cond b (Head ∷ []) []) ≡ []
no_last true = refl
no_last false = refl

append_none : {X : Type 0} (xs ys : List X) → ys ≡ [] → xs ++ ys ≡ xs
append_none [] ys e = e
append_none (x ∷ xs) ys e = ap (λ zs. x ∷ zs) (append_none xs ys e)

-- they write the places of its cells
pub each_place : (patch : PatchValue) → flat_map places_in (runs_of patch) ≡ keys_of patch.cells
each_place patch =
    let are = are_runs patch in
    let between : List Run = are.between in
    ap (flat_map places_in) are.order
    ∙ flat_map-append places_in (first_runs patch) (between ++ last_runs patch)
    ∙ ap (λ (xs : List (ℕ × ℕ)). xs ++ flat_map places_in (between ++ last_runs patch)) (no_first patch.fresh (file_size_of patch.layout.archives))
    ∙ flat_map-append places_in between (last_runs patch)
    ∙ append_none (flat_map places_in between) (flat_map places_in (last_runs patch)) (no_last patch.fresh)
    ∙ are.each

-- ---- the last run of a fresh patch is its head

snoc_last : {X : Type 0} (xs ys : List X) (x y : X) → xs ++ x ∷ [] ≡ ys ++ y ∷ [] → x ≡ y
snoc_last [] [] x y e = cc
snoc_last [] (b ∷ []) x y e = absurd cc
snoc_last [] (b ∷ c ∷ ys) x y e = absurd cc
snoc_last (a ∷ []) [] x y e = absurd cc
snoc_last (a ∷ b ∷ xs) [] x y e = absurd cc
snoc_last (a ∷ xs) (b ∷ ys) x y e =
    let tail : xs ++ x ∷ [] ≡ ys ++ y ∷ [] = cc in
    snoc_last xs ys x y tail

ends_with_head : (patch : PatchValue) → patch.fresh ≡ true → runs_of patch ≡ (first_runs patch ++ runs_in (keys_of patch.cells)) ++ Head ∷ []
ends_with_head patch fresh = rw fresh refl

pub other_last : (patch : PatchValue) (written : List Run) (run : Run) → runs_of patch ≡ written ++ run ∷ [] → run ≢ Head → patch.fresh ≡ false
other_last patch written run e other = elim (cases_Bool patch.fresh) [
  | inr over ↦ over
  | inl fresh ↦ absurd (other (sym (snoc_last (first_runs patch ++ runs_in (keys_of patch.cells)) written Head run (sym (ends_with_head patch fresh) ∙ e))))
]

-- ---- a place that no run of a patch writes has no cell

none_by : (cells : Laid) (place : ℕ × ℕ) (found : Option (ℕ × ℤ)) → cell_at cells place ≡ found → (Contains (keys_of cells) place → ⊥) → found ≡ None
none_by cells place None e none = refl
none_by cells place (Some cell) e none =
    let there = place_from_lookup (is_at (place_cmp place)) cells cell e in
    let within : there.0 < length cells = slice_get_within cells there.0 (there.1, cell) there.2 in
    let entry : get_or cells there.0 (there.1, cell) ≡ (there.1, cell) = get_or_from_slice_get cells there.0 (there.1, cell) (there.1, cell) there.2 in
    let key : get_or (keys_of cells) there.0 place ≡ there.1 =
    get_or-map (λ (x : (ℕ × ℕ) × (ℕ × ℤ)). x.0) cells there.0 (there.1, cell) place within ∙ ap (λ (x : (ℕ × ℕ) × (ℕ × ℤ)). x.0) entry in
    let count : length (keys_of cells) ≡ length cells = length-map cells (λ (x : (ℕ × ℕ) × (ℕ × ℤ)). x.0) in
    absurd (none (there.0, omega arith, key ∙ sym (same_place place there.1 there.3)))

pub none_laid : (patch : PatchValue) (runs : List Run) (place : ℕ × ℕ) → flat_map places_in runs ≡ keys_of patch.cells → (Contains (flat_map places_in runs) place → ⊥) → cell_at patch.cells place ≡ None
none_laid patch runs place e none = none_by patch.cells place (cell_at patch.cells place) refl (λ there. none (subst (λ (xs : List (ℕ × ℕ)). Contains xs place) (sym e) there))
