-- How long the parts of a body are.
use Rattle.std.proofs.Common.{◌≡◌, ◌∙◌, ℕ, ℤ, ◌+◌, ◌*◌, List, [], ◌∷◌, ◌++◌, length, refl, ap, arith, append_assoc, Bool, length-append}
use Rattle.std.specs.Prelude.{if◌then◌else◌}
use Rattle.std.proofs.lemmas.List.Concat.{flat_map-cons}
use Rattle.std.proofs.lemmas.Grind.{flat_map-append}
use Rattle.ring_format.specs.Head.{front_bytes, head_bytes, number_bytes, rows_bytes, rows_of}
use Rattle.ring_format.specs.Layout.{LayoutValue}
use Rattle.ring_format.specs.LayoutFile.{head_size}
use Rattle.ring_format.specs.Patch.{Cells as Laid, PatchValue}
use Rattle.ring_format.proofs.RowLemmas.{length-rows_of}
use Rattle.ring_format.proofs.WrittenHeads.{length-front_bytes, length-rows_bytes}
use Rattle.redo_log.specs.Body.{body_bytes, count_bytes, entries_bytes, entry_bytes, entry_size, leading_bytes, numbers_bytes}

pub length-head : (layout : LayoutValue) → length (head_bytes layout) ≡ head_size (length layout.archives)
length-head layout =
    omega (arith, length-append (front_bytes 2 layout) (rows_bytes (rows_of 2 layout.archives)), length-front_bytes 2 layout, length-rows_bytes (rows_of 2 layout.archives), length-rows_of 2 layout.archives)

pub length-entry_bytes : (cell : (ℕ × ℕ) × (ℕ × ℤ)) → length (entry_bytes cell) ≡ entry_size
unfolding entry_bytes number_bytes
length-entry_bytes cell = refl

pub entries_none : entries_bytes [] ≡ []
unfolding entries_bytes
entries_none = refl

pub entries_first : (cell : (ℕ × ℕ) × (ℕ × ℤ)) (cells : Laid) → entries_bytes (cell ∷ cells) ≡ entry_bytes cell ++ entries_bytes cells
unfolding entries_bytes
entries_first cell cells = flat_map-cons entry_bytes cell cells

pub entries_both : (cells later : Laid) → entries_bytes (cells ++ later) ≡ entries_bytes cells ++ entries_bytes later
unfolding entries_bytes
entries_both cells later = flat_map-append entry_bytes cells later

pub length-entries : (cells : Laid) → length (entries_bytes cells) ≡ entry_size * length cells
length-entries [] = ap length entries_none
length-entries (cell ∷ cells) =
    omega (arith, ap length (entries_first cell cells), length-append (entry_bytes cell) (entries_bytes cells), length-entry_bytes cell, length-entries cells)

pub length-count_bytes : (n : ℕ) → length (count_bytes n) ≡ 8
unfolding count_bytes
length-count_bytes n = refl

pub length-numbers : (patch : PatchValue) → length (numbers_bytes patch) ≡ 16
unfolding numbers_bytes number_bytes count_bytes
length-numbers patch = refl

pub length-leading : (patch : PatchValue) → length (leading_bytes patch) ≡ 16 + (length patch.path + head_size (length patch.layout.archives))
unfolding leading_bytes
length-leading patch =
    omega (arith, length-append (numbers_bytes patch) (patch.path ++ head_bytes patch.layout), length-append patch.path (head_bytes patch.layout), length-numbers patch, length-head patch.layout)

pub length-body : (patch : PatchValue) → length (body_bytes patch) ≡ length (leading_bytes patch) + entry_size * length patch.cells
length-body patch = omega (arith, length-append (leading_bytes patch) (entries_bytes patch.cells), length-entries patch.cells)

-- the parts before the cells, one behind the other
pub leading_written : (patch : PatchValue) (first second third : List ℕ) → first ≡ numbers_bytes patch → second ≡ first ++ patch.path → third ≡ second ++ head_bytes patch.layout → third ≡ leading_bytes patch
unfolding leading_bytes
leading_written patch first second third a b c =
    c ∙ ap (λ (xs : List ℕ). xs ++ head_bytes patch.layout) (b ∙ ap (λ (xs : List ℕ). xs ++ patch.path) a) ∙ append_assoc (numbers_bytes patch) patch.path (head_bytes patch.layout)

pub numbers_are : (patch : PatchValue) (bytes : List ℕ) (len count : ℕ) (fresh : Bool) → bytes ≡ number_bytes len ++ (number_bytes (if fresh then 1 else 0) ++ count_bytes count) → len ≡ length patch.path → fresh ≡ patch.fresh
    → count ≡ length patch.cells → bytes ≡ numbers_bytes patch
unfolding numbers_bytes
numbers_are patch bytes len count fresh e a b c =
    e ∙ ap (λ (n : ℕ). number_bytes n ++ (number_bytes (if fresh then 1 else 0) ++ count_bytes count)) a ∙ ap (λ (x : Bool). number_bytes (length patch.path) ++ (number_bytes (if x then 1 else 0) ++ count_bytes count)) b
    ∙ ap (λ (n : ℕ). number_bytes (length patch.path) ++ (number_bytes (if patch.fresh then 1 else 0) ++ count_bytes n)) c
