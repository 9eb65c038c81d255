-- Lemmas on the cells of a patch.
use Rattle.std.proofs.Common.{◌≡◌, ◌≢◌, ℕ, ℤ, Bool, true, false, cond, [], ◌∷◌, All, Option, Some, None, IfSome, OnOk, OnErr, Result, Ok, Err, refl, sym, ap, subst, ◌∙◌, is_le}
use Rattle.std.specs.BTreeMap.{is_at}
use Rattle.std.specs.FinMap.{nat_cmp-IsAntisymmetric}
use Rattle.std.specs.Map.{keys_of}
use Rattle.std.specs.Ordering.{nat_cmp, is_eq, ordering_then}
use Rattle.std.specs.declared.cmp.Ordering.{Ordering}
use Rattle.std.specs.declared.cmp.Ordering.TheVariants.{Less, Equal, Greater}
use Rattle.std.proofs.lemmas.List.Elements.{All-head, All-tail}
use Rattle.std.proofs.lemmas.Map.Views.{All-keys-insert_entry}
use Rattle.ring_format.specs.Layout.{LayoutValue}
use Rattle.ring_format.specs.Patch.{Cells, IsPlace, first_cell_from, place_cmp, with_cell}

-- the cells stand at places of the layout still
pub keeps_places : (layout : LayoutValue) (cells later : Cells) (place : ℕ × ℕ) (cell : ℕ × ℤ) → later ≡ with_cell cells place cell → All (IsPlace layout) (keys_of cells) → IsPlace layout place
    → All (IsPlace layout) (keys_of later)
keeps_places layout cells later place cell e all here = rw e (All-keys-insert_entry place_cmp place cell (IsPlace layout) cells all here)

same_some : {X : Type 0} (x y : X) → Some x ≡ Some y → x ≡ y
same_some x y e = cc

-- each cell that is found stands at a place of the layout
pub found_place : (layout : LayoutValue) (cells : Cells) (place : ℕ × ℕ) (cell : (ℕ × ℕ) × (ℕ × ℤ)) → All (IsPlace layout) (keys_of cells) → first_cell_from cells place ≡ Some cell → IsPlace layout cell.0
found_place layout [] place cell all e = absurd cc
found_place layout (x ∷ cells) place cell all e =
    elim (is_le (place_cmp place x.0)) as (λ b. cond b (Some x) (first_cell_from cells place) ≡ Some cell → IsPlace layout cell.0) [
      | true ↦ λ f. subst (λ (y : (ℕ × ℕ) × (ℕ × ℤ)). IsPlace layout y.0) (same_some x cell f) (All-head (IsPlace layout) x.0 (keys_of cells) all)
      | false ↦ λ f. found_place layout cells place cell (All-tail (IsPlace layout) x.0 (keys_of cells) all) f
    ] e

-- only a place itself ties with it
tied_then : (o p : Ordering) → is_eq (ordering_then o p) ≡ true → (o ≡ Equal) × (p ≡ Equal)
tied_then Less p e = absurd cc
tied_then Equal Less e = absurd cc
tied_then Equal Equal e = (refl, refl)
tied_then Equal Greater e = absurd cc
tied_then Greater p e = absurd cc

false_of : (b : Bool) → (b ≡ true → ⊥) → b ≡ false
false_of true h = absurd (h refl)
false_of false h = refl

pub other_place : (place other : ℕ × ℕ) → other ≢ place → is_at (place_cmp place) other ≡ false
other_place place other differs = false_of (is_at (place_cmp place) other) (λ tied.
    let both = tied_then (nat_cmp place.0 other.0) (nat_cmp place.1 other.1) tied in
    differs (ap (λ (a : ℕ). (a, other.1)) (sym (nat_cmp-IsAntisymmetric place.0 other.0 both.0)) ∙ ap (λ (b : ℕ). (place.0, b)) (sym (nat_cmp-IsAntisymmetric place.1 other.1 both.1))))

pub each_found : (layout : LayoutValue) (cells : Cells) (place : ℕ × ℕ) (found : Option ((ℕ × ℕ) × (ℕ × ℤ))) → All (IsPlace layout) (keys_of cells) → found ≡ first_cell_from cells place → IfSome found (λ cell. IsPlace layout cell.0)
each_found layout cells place None all is = tt
each_found layout cells place (Some cell) all is = found_place layout cells place cell all (sym is)

-- a cell is laid, or the cells are as before
pub keep_places : {T E : Type 0} (layout : LayoutValue) (cells later : Cells) (place : ℕ × ℕ) (cell : ℕ × ℤ) (end : Result T E) → OnOk end (later ≡ with_cell cells place cell) → OnErr end (later ≡ cells)
    → All (IsPlace layout) (keys_of cells) → IsPlace layout place → All (IsPlace layout) (keys_of later)
keep_places layout cells later place cell (Ok done) ok err all here = keeps_places layout cells later place cell ok all here
keep_places layout cells later place cell (Err fault) ok err all here = rw err all
