-- The value of a bucket, from the cells that were read.
use Rattle.std.proofs.Common.{◌≡◌, ◌∙◌, ℕ, ℤ, ◌==◌, Bool, true, false, List, Option, Some, None, refl, sym, ap}
use Rattle.std.specs.Prelude.{slice_get, if◌then◌else◌}
use Rattle.ring_format.specs.declared.archive.Archive.{Archive}
use Rattle.ring_format.specs.Patch.{PatchValue}
use Rattle.ring_format.specs.Slot.{slot_of}
use Rattle.ring_archive.specs.Ring.{is_bucket, ring_cell, value_for, value_from, value_in, value_of}

else_part : {X : Type 0} (b : Bool) (x y : X) → b ≡ false → y ≡ (if b then x else y)
else_part b x y e = rw e refl

-- a number that is no bucket
pub no_bucket : (patch : PatchValue) (file : List ℕ) (i bucket : ℕ) (archive : Archive) → slice_get patch.layout.archives i ≡ Some archive → is_bucket bucket archive ≡ false → None ≡ value_of patch file i bucket
unfolding value_of value_in
no_bucket patch file i bucket archive e f = rw (e, f) refl

-- an archive that is empty
pub empty_archive : (patch : PatchValue) (file : List ℕ) (i bucket : ℕ) (archive : Archive) (first : ℕ × Option ℤ) → slice_get patch.layout.archives i ≡ Some archive → is_bucket bucket archive ≡ true → first ≡ ring_cell patch file (i, 0) → first.0 ≡ 0
    → None ≡ value_of patch file i bucket
unfolding value_of value_in
empty_archive patch file i bucket archive first e f at zero = rw (e, f) (ap (λ (base : ℕ). value_from patch file i archive bucket base) (sym zero ∙ ap (λ (cell : ℕ × Option ℤ). cell.0) at))

-- the cell in the bucket's slot
pub value_there : (patch : PatchValue) (file : List ℕ) (i bucket : ℕ) (archive : Archive) (first cell : ℕ × Option ℤ) → slice_get patch.layout.archives i ≡ Some archive → is_bucket bucket archive ≡ true → (first.0 == 0) ≡ false
    → first ≡ ring_cell patch file (i, 0) → cell ≡ ring_cell patch file (i, slot_of first.0 bucket archive) → value_for bucket cell ≡ value_of patch file i bucket
unfolding value_of value_in
value_there patch file i bucket archive first cell e f some at there =
    let from_first : value_for bucket cell ≡ value_from patch file i archive bucket first.0 =
    ap (value_for bucket) there ∙ else_part (first.0 == 0) None (value_for bucket (ring_cell patch file (i, slot_of first.0 bucket archive))) some in
    rw (e, f) (from_first ∙ ap (λ (base : ℕ). value_from patch file i archive bucket base) (ap (λ (cell : ℕ × Option ℤ). cell.0) at))
