-- What 12 bytes of a file are after a piece was put over it.
use Rattle.std.proofs.Common.{◌≡◌, ◌∙◌, ℕ, ◌+◌, ◌≤◌, List, ◌++◌, length, take, drop, ap, arith, length-take, length-drop, append_assoc}
use Rattle.std.proofs.lemmas.List.{take-append-le, drop-append-le, take-take}
use Rattle.std.proofs.Math.Seq.{drop-append-add, take-append_seam}
use Rattle.outside_io.specs.Image.{put_over}
use Rattle.ring_format.specs.Cell.{cell_size}

-- bytes of the piece
pub bytes_inside : (file piece : List ℕ) (at j : ℕ) → at ≤ length file → j + cell_size ≤ length piece → take cell_size (drop (at + j) (put_over file at piece)) ≡ take cell_size (drop j piece)
bytes_inside file piece at j fits room =
    let front : length (take at file) ≡ at = omega (arith, length-take at file) in
    let far : at + j ≡ length (take at file) + j = omega arith in
    let left : cell_size ≤ length (drop j piece) = omega (arith, length-drop j piece) in
    ap (λ (n : ℕ). take cell_size (drop n (put_over file at piece))) far
    ∙ ap (λ (xs : List ℕ). take cell_size (drop (length (take at file) + j) xs)) (append_assoc (take at file) piece (drop (at + length piece) file))
    ∙ ap (take cell_size) (drop-append-add (take at file) (piece ++ drop (at + length piece) file) j)
    ∙ ap (take cell_size) (drop-append-le j piece (drop (at + length piece) file) (omega arith))
    ∙ take-append-le cell_size (drop j piece) (drop (at + length piece) file) left

-- the front of a file before the piece
pub front_before : (file piece : List ℕ) (at count : ℕ) → count ≤ at → at ≤ length file → take count (put_over file at piece) ≡ take count file
front_before file piece at count before fits =
    let front : length (take at file) ≡ at = omega (arith, length-take at file) in
    ap (take count) (append_assoc (take at file) piece (drop (at + length piece) file))
    ∙ take-append-le count (take at file) (piece ++ drop (at + length piece) file) (omega arith)
    ∙ take-take count at file before

-- a piece that is put over the front
pub front_is : (file piece : List ℕ) → take (length piece) (put_over file 0 piece) ≡ piece
front_is file piece = take-append_seam piece (drop (0 + length piece) file)
