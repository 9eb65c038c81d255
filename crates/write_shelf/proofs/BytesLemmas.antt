-- The bytes of neighbouring cells.
use Rattle.std.proofs.Common.{◌≡◌, ◌∙◌, ℕ, zero, suc, ℤ, ◌+◌, ◌*◌, ◌<◌, ◌≤◌, List, [], ◌∷◌, ◌++◌, length, take, drop, flat_map, slice_get, get_or, Option, Some, None, IsSome, IfSome, refl, sym, ap, subst, arith, append-nil, length-append, inl, inr, IsSomeAnd}
use Rattle.std.proofs.lemmas.Bool.{cases_lt}
use Rattle.std.specs.List.{range_with_len}
use Rattle.std.specs.Option.{option_map_or}
use Rattle.std.proofs.Math.Seq.{drop-append-add, take-append_seam}
use Rattle.std.proofs.lemmas.Grind.{flat_map-append}
use Rattle.std.proofs.lemmas.Option.{slice_get-get_or}
use Rattle.ring_format.specs.declared.archive.Archive.{Archive}
use Rattle.ring_format.specs.Cell.{cell_bytes, cell_in, cell_size}
use Rattle.ring_format.specs.Head.{front_bytes, head_bytes, rows_bytes, rows_of}
use Rattle.ring_format.specs.Layout.{LayoutValue}
use Rattle.ring_format.specs.LayoutFile.{file_size_of, head_size, offset_of}
use Rattle.ring_format.specs.Patch.{Cells as Laid, PatchValue, cell_at}
use Rattle.ring_format.proofs.RowLemmas.{length-rows_of}
use Rattle.ring_format.proofs.WrittenHeads.{length-front_bytes, length-rows_bytes}
use Rattle.write_shelf.specs.Shelf.{AreLaid, ReadsBack, StandsAt, bytes_at, cells_bytes}
use Rattle.write_shelf.specs.declared.run.Run.TheVariants.{Create, Cells, Head}

range_more : (a n : ℕ) → range_with_len a (n + 1) ≡ range_with_len a n ++ (a + n) ∷ []
range_more a zero =
    let same : a ≡ a + 0 = omega arith in
    ap (λ (x : ℕ). x ∷ []) same
range_more a (suc n) =
    let counted : suc n + 1 ≡ suc (n + 1) = omega arith in
    let last : (a + 1) + n ≡ a + suc n = omega arith in
    ap (range_with_len a) counted ∙ ap (λ (xs : List ℕ). a ∷ xs) (range_more (a + 1) n) ∙ ap (λ (x : ℕ). a ∷ (range_with_len (a + 1) n ++ x ∷ [])) last

-- one more cell
pub bytes_more : (cells : Laid) (archive slot count : ℕ) → cells_bytes cells archive slot (count + 1) ≡ cells_bytes cells archive slot count ++ bytes_at cells (archive, slot + count)
bytes_more cells archive slot count =
    ap (flat_map (λ (s : ℕ). bytes_at cells (archive, s))) (range_more slot count)
    ∙ flat_map-append (λ (s : ℕ). bytes_at cells (archive, s)) (range_with_len slot count) ((slot + count) ∷ [])
    ∙ ap (λ (xs : List ℕ). cells_bytes cells archive slot count ++ xs) (append-nil (bytes_at cells (archive, slot + count)))

length-cell : (cell : Option (ℕ × ℤ)) → IsSome cell → length (option_map_or (λ c. cell_bytes c.0 c.1) cell []) ≡ cell_size
length-cell None some = absurd cc
length-cell (Some cell) some = refl

-- 12 bytes a cell
pub length-cells_bytes : (cells : Laid) (archive slot count : ℕ) → ((k : ℕ) → k < count → IsSome (cell_at cells (archive, slot + k))) → length (cells_bytes cells archive slot count) ≡ cell_size * count
length-cells_bytes cells archive slot zero laid = refl
length-cells_bytes cells archive slot (suc count) laid =
    let more : suc count ≡ count + 1 = omega arith in
    let before = length-cells_bytes cells archive slot count (λ k below. laid k (omega arith)) in
    let last = length-cell (cell_at cells (archive, slot + count)) (laid count (omega arith)) in
    let all : length (cells_bytes cells archive slot (count + 1)) ≡ length (cells_bytes cells archive slot count) + length (bytes_at cells (archive, slot + count))
    = ap length (bytes_more cells archive slot count) ∙ length-append (cells_bytes cells archive slot count) (bytes_at cells (archive, slot + count)) in
    ap (λ (n : ℕ). length (cells_bytes cells archive slot n)) more ∙ all ∙ (omega arith)

-- each cell stands in 12 bytes of its own
pub cell_stands : (cells : Laid) (archive slot count k : ℕ) → ((j : ℕ) → j < count → IsSome (cell_at cells (archive, slot + j))) → k < count
    → take cell_size (drop (cell_size * k) (cells_bytes cells archive slot count)) ≡ bytes_at cells (archive, slot + k)
cell_stands cells archive slot zero k laid below = absurd (omega arith)
cell_stands cells archive slot (suc count) zero laid below =
    let here : slot + 0 ≡ slot = omega arith in
    let first : List ℕ = bytes_at cells (archive, slot) in
    let some : IsSome (cell_at cells (archive, slot)) = subst (λ (s : ℕ). IsSome (cell_at cells (archive, s))) here (laid 0 (omega arith)) in
    let long : length first ≡ cell_size = length-cell (cell_at cells (archive, slot)) some in
    let rest : List ℕ = cells_bytes cells archive (slot + 1) count in
    ap (λ (n : ℕ). take n (first ++ rest)) (sym long) ∙ take-append_seam first rest ∙ ap (λ (s : ℕ). bytes_at cells (archive, s)) (sym here)
cell_stands cells archive slot (suc count) (suc k) laid below =
    let here : slot + 0 ≡ slot = omega arith in
    let first : List ℕ = bytes_at cells (archive, slot) in
    let some : IsSome (cell_at cells (archive, slot)) = subst (λ (s : ℕ). IsSome (cell_at cells (archive, s))) here (laid 0 (omega arith)) in
    let long : length first ≡ cell_size = length-cell (cell_at cells (archive, slot)) some in
    let rest : List ℕ = cells_bytes cells archive (slot + 1) count in
    let past : cell_size * suc k ≡ length first + cell_size * k = omega (arith, long) in
    let behind : (slot + 1) + k ≡ slot + suc k = omega arith in
    let others : (j : ℕ) → j < count → IsSome (cell_at cells (archive, (slot + 1) + j)) = λ j under.
    let moved : slot + suc j ≡ (slot + 1) + j = omega arith in
    subst (λ (s : ℕ). IsSome (cell_at cells (archive, s))) moved (laid (suc j) (omega arith)) in
    ap (λ (n : ℕ). take cell_size (drop n (first ++ rest))) past ∙ ap (take cell_size) (drop-append-add first rest (cell_size * k)) ∙ cell_stands cells archive (slot + 1) count k others (omega arith)
    ∙ ap (λ (s : ℕ). bytes_at cells (archive, s)) behind

-- one more cell is written
pub written_more : (cells : Laid) (archive slot k : ℕ) (old new cell : List ℕ) (bucket : ℕ) (value : ℤ) → take (cell_size * k) old ≡ cells_bytes cells archive slot k
    → take (cell_size * k + cell_size) new ≡ take (cell_size * k) old ++ cell → cell ≡ cell_bytes bucket value → cell_at cells (archive, slot + k) ≡ Some (bucket, value)
    → take (cell_size * (k + 1)) new ≡ cells_bytes cells archive slot (k + 1)
written_more cells archive slot k old new cell bucket value before more is laid =
    let counted : cell_size * (k + 1) ≡ cell_size * k + cell_size = omega arith in
    let here : bytes_at cells (archive, slot + k) ≡ cell_bytes bucket value = ap (λ (o : Option (ℕ × ℤ)). option_map_or (λ c. cell_bytes c.0 c.1) o []) laid in
    ap (λ (n : ℕ). take n new) counted ∙ more ∙ ap (λ (xs : List ℕ). xs ++ cell) before
    ∙ ap (λ (xs : List ℕ). cells_bytes cells archive slot k ++ xs) (is ∙ sym here)
    ∙ sym (bytes_more cells archive slot k)

pub read_more : (patch : PatchValue) (archive slot n bucket : ℕ) (value : ℤ) → ReadsBack patch (Cells archive slot n) → cell_at patch.cells (archive, slot + n) ≡ Some (bucket, value)
    → cell_in 2 (cell_bytes bucket value) ≡ (bucket, Some value) → ReadsBack patch (Cells archive slot (n + 1))
read_more patch archive slot n bucket value before laid is = λ k below. elim (cases_lt k n) [
  | inl less ↦ before k less
  | inr last ↦
      let same : n ≡ k = omega arith in
      subst (λ (j : ℕ). IsSomeAnd (cell_at patch.cells (archive, slot + j)) (λ cell. cell_in 2 (cell_bytes cell.0 cell.1) ≡ (cell.0, Some cell.1))) same (rw laid is)
]

-- ---- inside the file

blank : Archive
blank = record { step = 0; points = 0 }

pub cells_stand : (patch : PatchValue) (archive slot count offset : ℕ) → AreLaid patch archive slot count → offset ≡ offset_of patch.layout.archives archive
    → IfSome (slice_get patch.layout.archives archive) (λ ring. offset + cell_size * ring.points ≤ file_size_of patch.layout.archives)
    → StandsAt (offset + cell_size * slot) patch (Cells archive slot count)
cells_stand patch archive slot count offset laid is behind =
    let ring : slice_get patch.layout.archives archive ≡ Some (get_or patch.layout.archives archive blank) = slice_get-get_or patch.layout.archives archive blank laid.archived in
    let within : slot + count ≤ (get_or patch.layout.archives archive blank).points = rw ring at laid.within in
    let end : offset + cell_size * (get_or patch.layout.archives archive blank).points ≤ file_size_of patch.layout.archives = rw ring at behind in
    record {
      place = ap (λ (n : ℕ). n + cell_size * slot) is;
      within = omega (arith, length-cells_bytes patch.cells archive slot count laid.laid);
    }

length-head : (layout : LayoutValue) → length (head_bytes layout) ≡ head_size (length layout.archives)
length-head layout =
    omega (arith, length-append (front_bytes 2 layout) (rows_bytes (rows_of 2 layout.archives)), length-front_bytes 2 layout, length-rows_bytes (rows_of 2 layout.archives), length-rows_of 2 layout.archives)

pub head_stands : (patch : PatchValue) → StandsAt 0 patch Head
head_stands patch = record { place = refl; within = omega (arith, length-head patch.layout) }

pub nothing_stands : (patch : PatchValue) (size : ℕ) → StandsAt 0 patch (Create size)
nothing_stands patch size = record { place = refl; within = omega arith }
