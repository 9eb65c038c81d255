-- A file of its layout's length: where its head and its cells stand, and what they are where all is zero.
use Rattle.std.proofs.Common.{◌≡◌, ◌∙◌, ℕ, ◌+◌, ◌-◌, ◌≤◌, List, length, take, ap, arith, length-append}
use Rattle.std.proofs.Math.ListN.{replicate}
use Rattle.std.proofs.lemmas.List.{drop-replicate, take-replicate}
use Rattle.ring_format.specs.Cell.{cell_in, cell_size}
use Rattle.ring_format.specs.Head.{front_bytes, head_bytes, rows_bytes, rows_of}
use Rattle.ring_format.specs.Layout.{LayoutValue}
use Rattle.ring_format.specs.LayoutFile.{file_size_of, head_size}
use Rattle.ring_format.specs.Patch.{IsPlace}
use Rattle.ring_format.proofs.RowLemmas.{length-rows_of}
use Rattle.ring_format.proofs.WrittenHeads.{length-front_bytes, length-rows_bytes}
use Rattle.ring_archive.specs.Ring.{cell_from, cell_offset, zero_cell}
use Rattle.ring_archive.proofs.HeldLemmas.{zeros_are}
use Rattle.ring_writer.proofs.PlaceLemmas.{cells_within, slot_below}

pub length-head : (layout : LayoutValue) → length (head_bytes layout) ≡ head_size (length layout.archives)
length-head layout =
    omega (arith, length-append (front_bytes 2 layout) (rows_bytes (rows_of 2 layout.archives)), length-front_bytes 2 layout, length-rows_bytes (rows_of 2 layout.archives), length-rows_of 2 layout.archives)

-- the cell of a place lies behind the head and within the file
pub place_within : (layout : LayoutValue) (place : ℕ × ℕ) → IsPlace layout place
    → (head_size (length layout.archives) ≤ cell_offset 2 layout.archives place) × (cell_offset 2 layout.archives place + cell_size ≤ file_size_of layout.archives)
place_within layout place is =
    let bounds = cells_within layout place 1 is.0 (omega (arith, slot_below layout place is)) in
    (bounds.0, omega (arith, bounds.1))

-- a file of zeros
pub zeros_there : (layout : LayoutValue) (place : ℕ × ℕ) → IsPlace layout place → cell_from 2 layout.archives (replicate (file_size_of layout.archives) 0) place ≡ zero_cell
zeros_there layout place is =
    let bounds = place_within layout place is in
    ap (λ (xs : List ℕ). cell_in 2 (take cell_size xs)) (drop-replicate (cell_offset 2 layout.archives place) (file_size_of layout.archives) 0)
    ∙ ap (cell_in 2) (take-replicate cell_size (file_size_of layout.archives - cell_offset 2 layout.archives place) 0 (omega (arith, bounds.1)))
    ∙ zeros_are 2
