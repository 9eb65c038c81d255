-- Files that hold the same cells read the same.
use Rattle.std.proofs.Common.{◌≡◌, ◌∙◌, ℕ, ℤ, ◌<◌, ◌==◌, Bool, true, false, cond, List, length, get_or, Option, None, Some, refl, ap}
use Rattle.std.specs.Prelude.{slice_get, unwrap_or, option_and_then, option_map}
use Rattle.std.proofs.lemmas.Option.{get_or_from_slice_get, slice_get_within}
use Rattle.ring_format.specs.declared.archive.Archive.{Archive}
use Rattle.ring_format.specs.Layout.{layout_fault}
use Rattle.ring_format.specs.Patch.{IsPlace, PatchValue, cell_at}
use Rattle.ring_format.specs.Slot.{slot_of}
use Rattle.ring_format.proofs.LawfulLayouts.{archive_bounds}
use Rattle.ring_archive.specs.Ring.{AgreeAside, ReadsAs, Rings, base_of, is_bucket, laid_cell, ring_cell, value_for, value_from, value_in, value_of, zero_cell}
use Rattle.ring_archive.proofs.SlotLemmas.{slot_within}

-- ---- the values of an archive whose slots hold the same

value_alike : (p q : PatchValue) (old new : List ℕ) (i bucket : ℕ) (archive : Archive) (b : Bool) → is_bucket bucket archive ≡ b → 0 < archive.step → 0 < archive.points
    → ((slot : ℕ) → slot < archive.points → ring_cell q new (i, slot) ≡ ring_cell p old (i, slot))
    → cond b (value_from q new i archive bucket (base_of q new i)) None ≡ cond b (value_from p old i archive bucket (base_of p old i)) None
value_alike p q old new i bucket archive false is step points same = refl
value_alike p q old new i bucket archive true is step points same =
    let base : base_of q new i ≡ base_of p old i = ap (λ (cell : ℕ × Option ℤ). cell.0) (same 0 points) in
    ap (λ (n : ℕ). value_from q new i archive bucket n) base
    ∙ ap (λ (cell : ℕ × Option ℤ). cond (base_of p old i == 0) None (value_for bucket cell))
    (same (slot_of (base_of p old i) bucket archive) (slot_within (base_of p old i) bucket archive step points))

pub archive_alike : (p q : PatchValue) (old new : List ℕ) (i bucket : ℕ) (found : Option Archive) → slice_get p.layout.archives i ≡ found → layout_fault p.layout.archives p.layout.factor ≡ None
    → ((place : ℕ × ℕ) → IsPlace p.layout place → ring_cell q new place ≡ ring_cell p old place)
    → option_and_then (λ archive. value_in q new i archive bucket) found ≡ option_and_then (λ archive. value_in p old i archive bucket) found
unfolding value_in
archive_alike p q old new i bucket None e lawful same = refl
archive_alike p q old new i bucket (Some archive) e lawful same =
    let inside : i < length p.layout.archives = slice_get_within p.layout.archives i archive e in
    let bounds = archive_bounds p.layout.archives p.layout.factor i archive lawful inside in
    let is : get_or p.layout.archives i archive ≡ archive = get_or_from_slice_get p.layout.archives i archive archive e in
    let step : 0 < archive.step = rw is at bounds.0 in
    let points : 0 < archive.points = rw is at bounds.2 in
    let slots = λ (slot : ℕ) (below : slot < archive.points). let here : IsPlace p.layout (i, slot) = (inside, rw e below) in same (i, slot) here in
    value_alike p q old new i bucket archive _ refl step points slots

-- ---- one patch over two files

laid_or : (found : Option (ℕ × ℤ)) (fresh : Bool) (x y : ℕ × Option ℤ) → (found ≡ None → x ≡ y) → unwrap_or (option_map laid_cell found) (cond fresh zero_cell x) ≡ unwrap_or (option_map laid_cell found) (cond fresh zero_cell y)
laid_or None true x y same = refl
laid_or None false x y same = same refl
laid_or (Some cell) fresh x y same = refl

-- the cells that the patch lays hide those of the file
pub cells_alike : (patch : PatchValue) (file other : List ℕ) → AgreeAside patch file other → (place : ℕ × ℕ) → IsPlace patch.layout place → ring_cell patch other place ≡ ring_cell patch file place
unfolding ring_cell
cells_alike patch file other agree place is = laid_or (cell_at patch.cells place) patch.fresh _ _ (agree place is)

pub aside_alike : (patch : PatchValue) (file other : List ℕ) (rings : Rings) → layout_fault patch.layout.archives patch.layout.factor ≡ None → AgreeAside patch file other → ReadsAs patch file rings → ReadsAs patch other rings
unfolding value_of
aside_alike patch file other rings lawful agree reads = λ i bucket.
    archive_alike patch patch file other i bucket (slice_get patch.layout.archives i) refl lawful (cells_alike patch file other agree) ∙ reads i bucket

-- ---- a file that is yet to be created

pub fresh_cell : (patch : PatchValue) (file other : List ℕ) (place : ℕ × ℕ) → patch.fresh ≡ true → ring_cell patch other place ≡ ring_cell patch file place
unfolding ring_cell
fresh_cell patch file other place fresh = ap (unwrap_or (option_map laid_cell (cell_at patch.cells place))) (rw fresh refl)

fresh_value : (patch : PatchValue) (file other : List ℕ) (i bucket : ℕ) (found : Option Archive) → patch.fresh ≡ true
    → option_and_then (λ archive. value_in patch other i archive bucket) found ≡ option_and_then (λ archive. value_in patch file i archive bucket) found
unfolding value_in
fresh_value patch file other i bucket None fresh = refl
fresh_value patch file other i bucket (Some archive) fresh =
    let base : base_of patch other i ≡ base_of patch file i = ap (λ (cell : ℕ × Option ℤ). cell.0) (fresh_cell patch file other (i, 0) fresh) in
    ap (λ (n : ℕ). cond (is_bucket bucket archive) (value_from patch other i archive bucket n) None) base
    ∙ ap (λ (cell : ℕ × Option ℤ). cond (is_bucket bucket archive) (cond (base_of patch file i == 0) None (value_for bucket cell)) None)
    (fresh_cell patch file other (i, slot_of (base_of patch file i) bucket archive) fresh)

pub fresh_alike : (patch : PatchValue) (file other : List ℕ) (rings : Rings) → patch.fresh ≡ true → ReadsAs patch file rings → ReadsAs patch other rings
unfolding value_of
fresh_alike patch file other rings fresh reads = λ i bucket. fresh_value patch file other i bucket (slice_get patch.layout.archives i) fresh ∙ reads i bucket
