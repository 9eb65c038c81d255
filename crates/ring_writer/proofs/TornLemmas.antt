-- A file that changed in the range of one run.
use Rattle.std.proofs.Common.{◌≡◌, ◌≢◌, ◌∙◌, ◌⊎◌, ℕ, ℤ, ◌+◌, ◌-◌, ◌*◌, ◌<◌, ◌≤◌, List, [], ◌++◌, length, take, drop, get_or, slice_get, Option, None, Some, IsSome, IsSomeAnd, inl, inr, sym, ap, subst, arith, length-append, length-take}
use Rattle.std.specs.Prelude.{option_map, unwrap_or}
use Rattle.std.specs.Option.{option_map_or}
use Rattle.std.proofs.lemmas.List.{drop-drop}
use Rattle.std.proofs.lemmas.Option.{slice_get-get_or}
use Rattle.std.proofs.lemmas.Slice.{drop-append-drop}
use Rattle.outside_io.specs.Image.{IsTorn, put_over}
use Rattle.outside_io.proofs.Ranges.{length-put_over}
use Rattle.ring_format.specs.Cell.{cell_bytes, cell_in, cell_size}
use Rattle.ring_format.specs.Head.{head_bytes}
use Rattle.ring_format.specs.Layout.{LayoutValue}
use Rattle.ring_format.specs.LayoutFile.{file_size_of, head_size}
use Rattle.ring_format.specs.Patch.{IsPlace, PatchValue, cell_at}
use Rattle.ring_archive.specs.Ring.{cell_from, cell_offset, laid_cell, ring_cell}
use Rattle.ring_archive.proofs.HeldLemmas.{piece_within}
use Rattle.write_shelf.specs.Shelf.{AreLaid, ReadsBack, cells_bytes}
use Rattle.write_shelf.specs.declared.run.Run.TheVariants.{Cells}
use Rattle.write_shelf.proofs.BytesLemmas.{cell_stands, length-cells_bytes}
use Rattle.ring_writer.proofs.CreatedLemmas.{length-head, place_within}
use Rattle.ring_writer.proofs.FileRanges.{bytes_inside, front_before}
use Rattle.ring_writer.proofs.PlaceLemmas.{blank, cells_apart, cells_within, slot_aside}

-- ---- bytes

-- the bytes of a cell beside the range
bytes_apart : (old new : List ℕ) (at n off : ℕ) → IsTorn old new at n → (off + cell_size ≤ at) ⊎ (at + n ≤ off) → take cell_size (drop off new) ≡ take cell_size (drop off old)
bytes_apart old new at n off torn (inl before) =
    sym (piece_within new off cell_size at before) ∙ ap (λ (xs : List ℕ). take cell_size (drop off xs)) torn.1 ∙ piece_within old off cell_size at before
bytes_apart old new at n off torn (inr behind) =
    let there : at + n + (off - (at + n)) ≡ off = omega arith in
    ap (λ (m : ℕ). take cell_size (drop m new)) (sym there)
    ∙ ap (take cell_size) (sym (drop-drop (off - (at + n)) (at + n) new))
    ∙ ap (λ (xs : List ℕ). take cell_size (drop (off - (at + n)) xs)) torn.2
    ∙ ap (take cell_size) (drop-drop (off - (at + n)) (at + n) old)
    ∙ ap (λ (m : ℕ). take cell_size (drop m old)) there

-- a piece that is put over the range
pub put_torn : (file piece : List ℕ) (at : ℕ) → at + length piece ≤ length file → IsTorn file (put_over file at piece) at (length piece)
put_torn file piece at fits = (
  length-put_over file piece at fits,
  front_before file piece at at (omega arith) (omega arith),
  drop-append-drop (at + length piece) file (take at file ++ piece) _ (omega arith) (omega (arith, length-append (take at file) piece, length-take at file)),
)

-- ---- cells

room_of : (patch : PatchValue) (archive slot count : ℕ) → AreLaid patch archive slot count → slot + count ≤ (get_or patch.layout.archives archive blank).points
room_of patch archive slot count laid =
    let ring : slice_get patch.layout.archives archive ≡ Some (get_or patch.layout.archives archive blank) = slice_get-get_or patch.layout.archives archive blank laid.archived in
    rw ring at laid.within

-- where the bytes of a run of cells stand
pub run_bounds : (patch : PatchValue) (archive slot count : ℕ) → AreLaid patch archive slot count
    → (head_size (length patch.layout.archives) ≤ cell_offset 2 patch.layout.archives (archive, slot)) × (cell_offset 2 patch.layout.archives (archive, slot) + cell_size * count ≤ file_size_of patch.layout.archives)
run_bounds patch archive slot count laid = cells_within patch.layout (archive, slot) count laid.archived (room_of patch archive slot count laid)

pub cells_torn_aside : (patch : PatchValue) (archive slot count n : ℕ) (old new : List ℕ) (place : ℕ × ℕ) → AreLaid patch archive slot count → n ≡ cell_size * count
    → IsTorn old new (cell_offset 2 patch.layout.archives (archive, slot)) n → IsPlace patch.layout place → ((k : ℕ) → k < count → (archive, slot + k) ≢ place)
    → cell_from 2 patch.layout.archives new place ≡ cell_from 2 patch.layout.archives old place
cells_torn_aside patch archive slot count n old new place laid long torn is differs =
    let apart : (cell_offset 2 patch.layout.archives place + cell_size ≤ cell_offset 2 patch.layout.archives (archive, slot)) ⊎ (cell_offset 2 patch.layout.archives (archive, slot) + n ≤ cell_offset 2 patch.layout.archives place) =
    rw long (cells_apart patch.layout (archive, slot) place count laid.archived (room_of patch archive slot count laid) is (slot_aside (archive, slot) place count differs)) in
    ap (cell_in 2) (bytes_apart old new (cell_offset 2 patch.layout.archives (archive, slot)) n (cell_offset 2 patch.layout.archives place) torn apart)

pub head_torn_aside : (layout : LayoutValue) (n : ℕ) (old new : List ℕ) (place : ℕ × ℕ) → n ≡ length (head_bytes layout) → IsTorn old new 0 n → IsPlace layout place
    → cell_from 2 layout.archives new place ≡ cell_from 2 layout.archives old place
head_torn_aside layout n old new place is torn at =
    ap (cell_in 2) (bytes_apart old new 0 n (cell_offset 2 layout.archives place) torn (inr (omega (arith, is, length-head layout, (place_within layout place at).0))))

some_none : {X : Type 0} (found : Option X) → IsSome found → found ≡ None → ⊥
some_none None some e = absurd cc
some_none (Some x) some e = absurd cc

-- a place that is not laid is not in a run
pub not_in_run : (patch : PatchValue) (archive slot count : ℕ) (place : ℕ × ℕ) → AreLaid patch archive slot count → cell_at patch.cells place ≡ None → (k : ℕ) → k < count → (archive, slot + k) ≢ place
not_in_run patch archive slot count place laid none k below e =
    some_none (cell_at patch.cells place) (subst (λ (p : ℕ × ℕ). IsSome (cell_at patch.cells p)) e (laid.laid k below)) none

-- ---- what a run of cells leaves in its slots

found_back : (found : Option (ℕ × ℤ)) (other : ℕ × Option ℤ) → IsSomeAnd found (λ cell. cell_in 2 (cell_bytes cell.0 cell.1) ≡ laid_cell cell)
    → cell_in 2 (option_map_or (λ cell. cell_bytes cell.0 cell.1) found []) ≡ unwrap_or (option_map laid_cell found) other
found_back None other back = absurd back
found_back (Some cell) other back = back

pub cell_there : (patch : PatchValue) (archive slot count k : ℕ) (old new piece : List ℕ) → AreLaid patch archive slot count → ReadsBack patch (Cells archive slot count) → k < count
    → piece ≡ cells_bytes patch.cells archive slot count → cell_offset 2 patch.layout.archives (archive, slot) ≤ length old → new ≡ put_over old (cell_offset 2 patch.layout.archives (archive, slot)) piece
    → cell_from 2 patch.layout.archives new (archive, slot + k) ≡ ring_cell patch new (archive, slot + k)
unfolding ring_cell
cell_there patch archive slot count k old new piece laid back below is fits put =
    let at : ℕ = cell_offset 2 patch.layout.archives (archive, slot) in
    let there : cell_offset 2 patch.layout.archives (archive, slot + k) ≡ cell_offset 2 patch.layout.archives (archive, slot) + cell_size * k = omega arith in
    let long : length piece ≡ cell_size * count = ap length is ∙ length-cells_bytes patch.cells archive slot count laid.laid in
    ap (λ (file : List ℕ). cell_in 2 (take cell_size (drop (cell_offset 2 patch.layout.archives (archive, slot + k)) file))) put
    ∙ ap (λ (m : ℕ). cell_in 2 (take cell_size (drop m (put_over old at piece)))) there
    ∙ ap (cell_in 2) (bytes_inside old piece at (cell_size * k) fits (omega arith))
    ∙ ap (λ (xs : List ℕ). cell_in 2 (take cell_size (drop (cell_size * k) xs))) is
    ∙ ap (cell_in 2) (cell_stands patch.cells archive slot count k laid.laid below)
    ∙ found_back (cell_at patch.cells (archive, slot + k)) _ (back k below)
