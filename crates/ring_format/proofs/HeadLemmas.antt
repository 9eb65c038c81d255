-- Lemmas on the rows of a head as they are read.
use Rattle.std.proofs.Common.{◌≡◌, ◌≢◌, ℕ, ◌+◌, ◌*◌, ◌<◌, ◌≤◌, Bool, false, not, eqb, List, length, Some, None, refl, ap, ◌∙◌, arith, eq-eqb, ne_eqb}
use Rattle.ring_format.specs.declared.archive.Archive.{Archive}
use Rattle.ring_format.specs.LayoutFile.{offset_in, row_size}
use Rattle.ring_format.specs.Head.{misplaced_archive, number_at}
use Rattle.ring_format.proofs.FoundPlaces.{find_first, find_nowhere}

abbrev is_misplaced : ℕ → List ℕ → List Archive → ℕ → Bool
is_misplaced version bytes archives i = not (eqb (number_at (16 + row_size * i) bytes) (offset_in version archives i))

in_place : (version : ℕ) (bytes : List ℕ) (archives : List Archive) (i : ℕ) → number_at (16 + row_size * i) bytes ≡ offset_in version archives i → is_misplaced version bytes archives i ≡ false
in_place version bytes archives i e = ap not (eq-eqb (number_at (16 + row_size * i) bytes) (offset_in version archives i) e)

pub misplaced_at : (version : ℕ) (bytes : List ℕ) (archives : List Archive) (i offset : ℕ) → i < length archives → offset ≡ offset_in version archives i
    → ((k : ℕ) → k < i → number_at (16 + row_size * k) bytes ≡ offset_in version archives k) → number_at (16 + row_size * i) bytes ≢ offset → misplaced_archive version bytes archives ≡ Some i
misplaced_at version bytes archives i offset within here before other =
    find_first (is_misplaced version bytes archives) 0 (length archives) i (omega arith) (omega arith) (λ k _ u. in_place version bytes archives k (before k u))
    (ap not (ne_eqb (number_at (16 + row_size * i) bytes) (offset_in version archives i) (λ same. other (same ∙ (rw here refl)))))

pub placed_everywhere : (version : ℕ) (bytes : List ℕ) (archives : List Archive) (n : ℕ) → length archives ≤ n → ((k : ℕ) → k < n → number_at (16 + row_size * k) bytes ≡ offset_in version archives k) → misplaced_archive version bytes archives ≡ None
placed_everywhere version bytes archives n all before =
    find_nowhere (is_misplaced version bytes archives) 0 (length archives) (λ k _ u. in_place version bytes archives k (before k (omega arith)))
