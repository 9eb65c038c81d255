-- The cells of a body are told by their bytes, and no others are.
use Rattle.std.proofs.Common.{◌≡◌, ◌∙◌, ℕ, zero, suc, ℤ, ◌+◌, ◌-◌, ◌*◌, ◌<◌, ◌≤◌, ◌^◌, Bool, true, false, cond, ◌&&◌, nat_lt, List, [], ◌∷◌, ◌++◌, length, take, drop, get_or, slice_get, Option, None, Some, IfSome, option_map, refl, sym, ap, ap₂, subst, arith, All, append_assoc, length-append, length-take, length-drop, take-append-drop, is_lt, inl, inr, Less}
use Rattle.std.specs.Prelude.{option_and_then}
use Rattle.std.specs.Int.{w32, w128, from_be_bytes, cast_signed}
use Rattle.std.specs.Option.{option_map_or}
use Rattle.std.specs.List.Sorted.{IsStrictlySortedBy}
use Rattle.std.specs.Map.{keys_of}
use Rattle.std.proofs.lemmas.Bool.{and_parts, cases_lt, cond-true, lt-ltb, ltb-true}
use Rattle.std.proofs.lemmas.List.Elements.{All-append}
use Rattle.std.proofs.lemmas.List.{drop-drop, drop_at, take_at, get_or-drop, get_or-take, get_or_past, append-nil}
use Rattle.std.proofs.lemmas.Map.Keys.{sorted_head, sorted_tail}
use Rattle.std.proofs.lemmas.Option.{slice_get-get_or}
use Rattle.fixed_num.specs.Decimal.{fits}
use Rattle.fixed_num.specs.Milli.{IsMilli, milli_of_bytes, value_of}
use Rattle.fixed_num.proofs.FitLemmas.{fits_is_milli}
use Rattle.ring_format.specs.declared.archive.Archive.{Archive}
use Rattle.ring_format.specs.Cell.{cell_bytes, cell_in, cell_size}
use Rattle.ring_format.specs.Head.{number_at, number_bytes}
use Rattle.ring_format.specs.Layout.{LayoutValue}
use Rattle.ring_format.specs.Patch.{Cells as Laid, IsPlace, place_cmp, with_cell}
use Rattle.ring_format.proofs.CellLemmas.{cell_is_read, cell_is_written}
use Rattle.ring_format.proofs.CellOrder.{rises_with}
use Rattle.ring_format.proofs.NumberLemmas.{IsBytes, length-number_bytes, number_at-written, number_bytes-read}
use Rattle.ring_format.proofs.PatchLemmas.{keeps_places}
use Rattle.redo_log.specs.Body.{AreCells, Fits, entries_bytes, entry_bytes, entry_size}
use Rattle.redo_log.specs.Told.{cell_told, cells_and, cells_told, cells_with, comes_behind, has_place, place_told}
use Rattle.redo_log.proofs.BodyLemmas.{entries_first, entries_none, length-entry_bytes}
use Rattle.redo_log.proofs.CellLemmas.{laid_last}

pub bytes_behind : (n : ℕ) (bytes : List ℕ) → IsBytes bytes → IsBytes (drop n bytes)
bytes_behind n bytes fits i = rw get_or-drop (fits (n + i))

pub bytes_front : (n : ℕ) (bytes : List ℕ) → IsBytes bytes → IsBytes (take n bytes)
bytes_front n bytes fits i = elim (cases_lt i n) [
  | inl lt ↦ rw (get_or-take n bytes i 0 lt) (fits i)
  | inr le ↦ rw (get_or_past (take n bytes) i 0 (omega (arith, length-take n bytes))) (omega arith)
]

-- ---- one cell

-- a cell of this place, with what is held there where its value fits
cell_by : ℕ × ℕ → ℕ × Option ℤ → Option ((ℕ × ℕ) × (ℕ × ℤ))
cell_by place held = option_map (λ value. (place, (held.0, value))) held.1

cell_by_parts : (entry : List ℕ) → cell_told entry ≡ cell_by (number_at 0 entry, number_at 4 entry) (cell_in 2 (drop 8 entry))
unfolding cell_told place_told cell_by
cell_by_parts entry = refl

some_cell : (place : ℕ × ℕ) (bucket : ℕ) (value : ℤ) → cell_by place (bucket, Some value) ≡ Some (place, (bucket, value))
unfolding cell_by
some_cell place bucket value = refl

parts_of : (cell : (ℕ × ℕ) × (ℕ × ℤ)) → entry_bytes cell ≡ number_bytes cell.0.0 ++ (number_bytes cell.0.1 ++ cell_bytes cell.1.0 cell.1.1)
unfolding entry_bytes
parts_of cell = refl

-- a cell is told by its bytes
pub cell_is_told : (cell : (ℕ × ℕ) × (ℕ × ℤ)) → cell.0.0 < 2 ^ 32 → cell.0.1 < 2 ^ 32 → Fits cell → cell_told (entry_bytes cell) ≡ Some cell
cell_is_told cell archive slot fit =
    let a : List ℕ = number_bytes cell.0.0 in
    let s : List ℕ = number_bytes cell.0.1 in
    let held : List ℕ = cell_bytes cell.1.0 cell.1.1 in
    let first : number_at 0 (entry_bytes cell) ≡ cell.0.0 = ap (number_at 0) (parts_of cell) ∙ number_at-written [] cell.0.0 (s ++ held) 0 refl archive in
    let second : number_at 4 (entry_bytes cell) ≡ cell.0.1 = ap (number_at 4) (parts_of cell) ∙ number_at-written a cell.0.1 held 4 (length-number_bytes cell.0.0) slot in
    let eight : length (a ++ s) ≡ 8 = omega (arith, length-append a s, length-number_bytes cell.0.0, length-number_bytes cell.0.1) in
    let rest : drop 8 (entry_bytes cell) ≡ held = ap (drop 8) (parts_of cell ∙ sym (append_assoc a s held)) ∙ drop_at (a ++ s) held 8 eight in
    cell_by_parts (entry_bytes cell)
    ∙ ap₂ cell_by (ap₂ (λ (m n : ℕ). (m, n)) first second) (ap (cell_in 2) rest ∙ cell_is_read cell.1.0 cell.1.1 fit.0 fit.1)
    ∙ some_cell cell.0 cell.1.0 cell.1.1

-- what a cell that is told has
record IsTold (entry : List ℕ) (cell : (ℕ × ℕ) × (ℕ × ℤ)) : Type 0 where
  pub place : cell.0 ≡ (number_at 0 entry, number_at 4 entry)
  pub held : cell_in 2 (drop 8 entry) ≡ (cell.1.0, Some cell.1.1)

told_parts : (place : ℕ × ℕ) (bucket : ℕ) (value : Option ℤ) (cell : (ℕ × ℕ) × (ℕ × ℤ)) → cell_by place (bucket, value) ≡ Some cell → (cell.0 ≡ place) × (bucket ≡ cell.1.0) × (value ≡ Some cell.1.1)
unfolding cell_by
told_parts place bucket None cell e = absurd cc
told_parts place bucket (Some value) cell e =
    let same : (place, (bucket, value)) ≡ cell = cc in
    (sym (ap (λ (c : (ℕ × ℕ) × (ℕ × ℤ)). c.0) same), ap (λ (c : (ℕ × ℕ) × (ℕ × ℤ)). c.1.0) same, ap (λ (c : (ℕ × ℕ) × (ℕ × ℤ)). Some c.1.1) same)

is_told : (entry : List ℕ) (cell : (ℕ × ℕ) × (ℕ × ℤ)) → cell_told entry ≡ Some cell → IsTold entry cell
is_told entry cell e =
    let parts = told_parts (number_at 0 entry, number_at 4 entry) (cell_in 2 (drop 8 entry)).0 (cell_in 2 (drop 8 entry)).1 cell (sym (cell_by_parts entry) ∙ e) in
    record { place = parts.0; held = ap₂ (λ (n : ℕ) (v : Option ℤ). (n, v)) parts.1 parts.2 }

value_fits_by : (number value : ℤ) (b : Bool) → fits number ≡ b → cond b (Some number) None ≡ Some value → IsMilli value
value_fits_by number value true test e =
    let same : number ≡ value = cc in
    subst IsMilli same ((fits_is_milli number).1 test)
value_fits_by number value false test e = absurd cc

value_fits : (number value : ℤ) → value_of number ≡ Some value → IsMilli value
unfolding value_of
value_fits number value e = value_fits_by number value (fits number) refl e

bucket_fits : (bytes : List ℕ) → IsBytes bytes → 4 ≤ length bytes → from_be_bytes w32 (take 4 bytes) < 2 ^ 32
bucket_fits bytes fits room =
    let four = bytes_front 4 bytes fits in
    omega (arith, four 0, four 1, four 2, four 3)

-- the bytes that tell a cell are the cell's
pub told_is_cell : (entry : List ℕ) (cell : (ℕ × ℕ) × (ℕ × ℤ)) → IsBytes entry → length entry ≡ entry_size → cell_told entry ≡ Some cell → (entry_bytes cell ≡ entry) × Fits cell
told_is_cell entry cell fits long e =
    let told = is_told entry cell e in
    let first : number_bytes cell.0.0 ≡ take 4 (drop 0 entry) = ap (λ (p : ℕ × ℕ). number_bytes p.0) told.place ∙ number_bytes-read entry 0 fits (omega arith) in
    let second : number_bytes cell.0.1 ≡ take 4 (drop 4 entry) = ap (λ (p : ℕ × ℕ). number_bytes p.1) told.place ∙ number_bytes-read entry 4 fits (omega arith) in
    let behind : IsBytes (drop 8 entry) = bytes_behind 8 entry fits in
    let twenty : length (drop 8 entry) ≡ cell_size = omega (arith, length-drop 8 entry) in
    let read : IfSome (cell_in 2 (drop 8 entry)).1 (λ value. cell_bytes (cell_in 2 (drop 8 entry)).0 value ≡ drop 8 entry) = cell_is_written (drop 8 entry) twenty behind in
    let held : cell_bytes cell.1.0 cell.1.1 ≡ drop 8 entry = subst (λ (h : ℕ × Option ℤ). IfSome h.1 (λ value. cell_bytes h.0 value ≡ drop 8 entry)) told.held read in
    let bucket : from_be_bytes w32 (take 4 (drop 8 entry)) ≡ cell.1.0 = ap (λ (h : ℕ × Option ℤ). h.0) told.held in
    let value : milli_of_bytes (drop 4 (drop 8 entry)) ≡ Some cell.1.1 = ap (λ (h : ℕ × Option ℤ). h.1) told.held in
    let front : take 4 (drop 4 entry) ++ drop 8 entry ≡ drop 4 entry = ap (λ (xs : List ℕ). take 4 (drop 4 entry) ++ xs) (sym (drop-drop 4 4 entry)) ∙ take-append-drop 4 (drop 4 entry) in (
      parts_of cell ∙ ap₂ (λ (xs ys : List ℕ). xs ++ ys) first (ap₂ (λ (xs ys : List ℕ). xs ++ ys) second held ∙ front) ∙ take-append-drop 4 entry,
      (subst (λ (n : ℕ). n < 2 ^ 32) bucket (bucket_fits (drop 8 entry) behind (omega (arith, twenty))), value_fits (cast_signed w128 (from_be_bytes w128 (drop 4 (drop 8 entry)))) cell.1.1 value),
    )

-- ---- a cell behind others

blank : Archive
blank = record { step = 0; points = 0 }

place_had : (layout : LayoutValue) (place : ℕ × ℕ) → IsPlace layout place → has_place layout place ≡ true
place_had layout place is =
    let ring : slice_get layout.archives place.0 ≡ Some (get_or layout.archives place.0 blank) = slice_get-get_or layout.archives place.0 blank is.0 in
    let below : place.1 < (get_or layout.archives place.0 blank).points = rw ring at is.1 in
    ap (λ (o : Option Archive). option_map_or (λ archive. nat_lt place.1 archive.points) o false) ring ∙ lt-ltb place.1 (get_or layout.archives place.0 blank).points below

had_place : (layout : LayoutValue) (place : ℕ × ℕ) → has_place layout place ≡ true → IsPlace layout place
had_place layout place has = elim (cases_lt place.0 (length layout.archives)) [
  | inl within ↦
      let ring : slice_get layout.archives place.0 ≡ Some (get_or layout.archives place.0 blank) = slice_get-get_or layout.archives place.0 blank within in
      let test : nat_lt place.1 (get_or layout.archives place.0 blank).points ≡ true = sym (ap (λ (o : Option Archive). option_map_or (λ archive. nat_lt place.1 archive.points) o false) ring) ∙ has in
      (within, subst (λ (o : Option Archive). IfSome o (λ archive. place.1 < archive.points)) (sym ring) (ltb-true place.1 (get_or layout.archives place.0 blank).points test))
  | inr past ↦ absurd (no_ring (slice_get layout.archives place.0) place.1 (slice_get_past layout.archives place.0 past) has)
]
  where
    no_ring : (o : Option Archive) (slot : ℕ) → o ≡ None → option_map_or (λ archive. nat_lt slot archive.points) o false ≡ true → ⊥
    no_ring None slot e f = absurd cc
    no_ring (Some archive) slot e f = absurd cc

    slice_get_past : (xs : List Archive) (i : ℕ) → length xs ≤ i → slice_get xs i ≡ None
    slice_get_past [] i past = refl
    slice_get_past (x ∷ xs) zero past = absurd (omega arith)
    slice_get_past (x ∷ xs) (suc i) past = slice_get_past xs i (omega arith)

-- the first of places that rise behind others comes behind them
last_less : (x : (ℕ × ℕ) × (ℕ × ℤ)) (cells : Laid) (cell : (ℕ × ℕ) × (ℕ × ℤ)) (later : Laid) (d : (ℕ × ℕ) × (ℕ × ℤ)) → IsStrictlySortedBy place_cmp (keys_of ((x ∷ cells) ++ cell ∷ later))
    → place_cmp (get_or (x ∷ cells) (length cells) d).0 cell.0 ≡ Less
last_less x [] cell later d rise = (sorted_head place_cmp x.0 (keys_of (cell ∷ later)) rise).0
last_less x (y ∷ cells) cell later d rise = last_less y cells cell later d (sorted_tail place_cmp x.0 (keys_of ((y ∷ cells) ++ cell ∷ later)) rise)

behind_by : (cells : Laid) (cell : (ℕ × ℕ) × (ℕ × ℤ)) (later : Laid) → IsStrictlySortedBy place_cmp (keys_of (cells ++ cell ∷ later)) → comes_behind cells cell.0 ≡ true
behind_by [] cell later rise = refl
behind_by (x ∷ cells) cell later rise =
    let at : length (x ∷ cells) - 1 ≡ length cells = omega arith in
    let found : slice_get (x ∷ cells) (length (x ∷ cells) - 1) ≡ Some (get_or (x ∷ cells) (length cells) x) = ap (slice_get (x ∷ cells)) at ∙ slice_get-get_or (x ∷ cells) (length cells) x (omega arith) in
    ap (λ (o : Option ((ℕ × ℕ) × (ℕ × ℤ))). option_map_or (λ c. is_lt (place_cmp c.0 cell.0)) o true) found ∙ ap is_lt (last_less x cells cell later x rise)

-- the cells with one more
pub one_more : (layout : LayoutValue) (cells : Laid) (cell : (ℕ × ℕ) × (ℕ × ℤ)) → IsPlace layout cell.0 → comes_behind cells cell.0 ≡ true → cells_and layout cells cell ≡ Some (cells ++ cell ∷ [])
one_more layout cells cell is behind = cond-true _ _ _ (ap₂ (λ (a b : Bool). a && b) (place_had layout cell.0 is) behind)

and_by : {X : Type 0} (b : Bool) (x y : X) → cond b (Some x) None ≡ Some y → (b ≡ true) × (x ≡ y)
and_by true x y e = (refl, cc)
and_by false x y e = absurd cc

-- what the cells with one more are
record IsMore (layout : LayoutValue) (cells : List ((ℕ × ℕ) × (ℕ × ℤ))) (cell : (ℕ × ℕ) × (ℕ × ℤ)) (more : List ((ℕ × ℕ) × (ℕ × ℤ))) : Type 0 where
  pub is : cells ++ cell ∷ [] ≡ more
  pub place : IsPlace layout cell.0
  pub behind : comes_behind cells cell.0 ≡ true

is_more : (layout : LayoutValue) (cells more : Laid) (cell : (ℕ × ℕ) × (ℕ × ℤ)) → cells_and layout cells cell ≡ Some more → IsMore layout cells cell more
is_more layout cells more cell e =
    let parts = and_by (has_place layout cell.0 && comes_behind cells cell.0) (cells ++ cell ∷ []) more e in
    let both = and_parts (has_place layout cell.0) (comes_behind cells cell.0) parts.0 in
    record { is = parts.1; place = had_place layout cell.0 both.0; behind = both.1 }

All-one : (P : (ℕ × ℕ) × (ℕ × ℤ) → Type 0) (cell : (ℕ × ℕ) × (ℕ × ℤ)) → P cell → All P (cell ∷ [])
All-one P cell holds zero d below = holds
All-one P cell holds (suc k) d below = absurd (omega arith)

-- cells of a layout with one behind them
more_are_cells : (layout : LayoutValue) (cells : Laid) (cell : (ℕ × ℕ) × (ℕ × ℤ)) → AreCells layout cells → IsPlace layout cell.0 → comes_behind cells cell.0 ≡ true → Fits cell → AreCells layout (cells ++ cell ∷ [])
more_are_cells layout cells cell are place behind fit =
    let laid : with_cell cells cell.0 cell.1 ≡ cells ++ cell ∷ [] = laid_last cells cell.0 cell.1 are.rise behind in
    record {
      rise = subst (λ (xs : Laid). IsStrictlySortedBy place_cmp (keys_of xs)) laid (rises_with cells cell.0 cell.1 are.rise);
      placed = keeps_places layout cells (cells ++ cell ∷ []) cell.0 cell.1 (sym laid) are.placed place;
      fit = All-append Fits cells (cell ∷ []) are.fit (All-one Fits cell fit);
    }

-- ---- all cells

with_by : (layout : LayoutValue) (cells : Laid) (entry : List ℕ) → cells_with layout cells entry ≡ option_and_then (cells_and layout cells) (cell_told entry)
unfolding cells_with
with_by layout cells entry = refl

-- the numbers of places are small
abbrev pub IsLow : LayoutValue → Type 0
IsLow layout = (place : ℕ × ℕ) → IsPlace layout place → (place.0 < 2 ^ 32) × (place.1 < 2 ^ 32)

pub cells_are_told : (layout : LayoutValue) (cells later : Laid) → IsLow layout → AreCells layout (cells ++ later) → cells_told layout cells (length later) (entries_bytes later) ≡ Some (cells ++ later)
cells_are_told layout cells [] low are = ap (λ (xs : Laid). Some xs) (sym (append-nil cells))
cells_are_told layout cells (cell ∷ later) low are =
    let entry : List ℕ = entry_bytes cell in
    let rest : List ℕ = entries_bytes later in
    let split : entries_bytes (cell ∷ later) ≡ entry ++ rest = entries_first cell later in
    let front : take entry_size (entries_bytes (cell ∷ later)) ≡ entry = ap (take entry_size) split ∙ take_at entry rest entry_size (length-entry_bytes cell) in
    let back : drop entry_size (entries_bytes (cell ∷ later)) ≡ rest = ap (drop entry_size) split ∙ drop_at entry rest entry_size (length-entry_bytes cell) in
    let moved : (cells ++ cell ∷ []) ++ later ≡ cells ++ cell ∷ later = append_assoc cells (cell ∷ []) later in
    let place : IsPlace layout cell.0 = place_of cells later cell are.placed in
    let fit : Fits cell = fit_of cells later cell are.fit in
    let told : cells_with layout cells (take entry_size (entries_bytes (cell ∷ later))) ≡ Some (cells ++ cell ∷ []) = ap (cells_with layout cells) front ∙ with_by layout cells entry
    ∙ ap (option_and_then (cells_and layout cells)) (cell_is_told cell (low cell.0 place).0 (low cell.0 place).1 fit) ∙ one_more layout cells cell place (behind_by cells cell later are.rise) in
    ap (option_and_then (λ more. cells_told layout more (length later) (drop entry_size (entries_bytes (cell ∷ later))))) told
    ∙ ap (cells_told layout (cells ++ cell ∷ []) (length later)) back
    ∙ cells_are_told layout (cells ++ cell ∷ []) later low (subst (AreCells layout) (sym moved) are)
    ∙ ap (λ (xs : Laid). Some xs) moved
  where
    at_place : (cells later : Laid) (cell d : (ℕ × ℕ) × (ℕ × ℤ)) → get_or (cells ++ cell ∷ later) (length cells) d ≡ cell
    at_place [] later cell d = refl
    at_place (x ∷ cells) later cell d = at_place cells later cell d

    at_key : (cells later : Laid) (cell : (ℕ × ℕ) × (ℕ × ℤ)) (d : ℕ × ℕ) → get_or (keys_of (cells ++ cell ∷ later)) (length cells) d ≡ cell.0
    at_key [] later cell d = refl
    at_key (x ∷ cells) later cell d = at_key cells later cell d

    long_keys : (cells later : Laid) (cell : (ℕ × ℕ) × (ℕ × ℤ)) → length cells < length (keys_of (cells ++ cell ∷ later))
    long_keys [] later cell = omega arith
    long_keys (x ∷ cells) later cell = let more = long_keys cells later cell in omega arith

    place_of : (cells later : Laid) (cell : (ℕ × ℕ) × (ℕ × ℤ)) → All (IsPlace layout) (keys_of (cells ++ cell ∷ later)) → IsPlace layout cell.0
    place_of cells later cell placed = subst (IsPlace layout) (at_key cells later cell cell.0) (placed (length cells) cell.0 (long_keys cells later cell))

    fit_of : (cells later : Laid) (cell : (ℕ × ℕ) × (ℕ × ℤ)) → All Fits (cells ++ cell ∷ later) → Fits cell
    fit_of cells later cell fit = subst Fits (at_place cells later cell cell) (fit (length cells) cell (omega (arith, length-append cells (cell ∷ later))))

-- the cells that were told behind others
pub record TellsLater (layout : LayoutValue) (cells : List ((ℕ × ℕ) × (ℕ × ℤ))) (bytes : List ℕ) (all : List ((ℕ × ℕ) × (ℕ × ℤ))) : Type 0 where
  pub later : List ((ℕ × ℕ) × (ℕ × ℤ))
  pub is : all ≡ cells ++ later
  pub bytes_are : entries_bytes later ≡ bytes
  pub are : AreCells layout all

chosen : {X Y : Type 0} (f : X → Option Y) (o : Option X) (y : Y) → option_and_then f o ≡ Some y → (x : X) × (o ≡ Some x) × (f x ≡ Some y)
chosen f None y e = absurd cc
chosen f (Some x) y e = (x, refl, e)

pub told_are_cells : (layout : LayoutValue) (cells : Laid) (n : ℕ) (bytes : List ℕ) (all : Laid) → length bytes ≡ entry_size * n → IsBytes bytes → AreCells layout cells → cells_told layout cells n bytes ≡ Some all
    → TellsLater layout cells bytes all
told_are_cells layout cells zero bytes all long fits are e =
    let same : cells ≡ all = cc in
    record { later = []; is = sym same ∙ sym (append-nil cells); bytes_are = entries_none ∙ sym (no_bytes bytes long); are = subst (AreCells layout) same are }
  where
    no_bytes : (bytes : List ℕ) → length bytes ≡ 0 → bytes ≡ []
    no_bytes [] e = refl
    no_bytes (x ∷ bytes) e = absurd (omega arith)
told_are_cells layout cells (suc n) bytes all long fits are e =
    let entry : List ℕ = take entry_size bytes in
    let rest : List ℕ = drop entry_size bytes in
    let step = chosen (λ more. cells_told layout more n rest) (cells_with layout cells entry) all e in
    let cell = chosen (cells_and layout cells) (cell_told entry) step.0 (sym (with_by layout cells entry) ∙ step.1) in
    let more = is_more layout cells step.0 cell.0 cell.2 in
    let whole : length entry ≡ entry_size = omega (arith, length-take entry_size bytes) in
    let told = told_is_cell entry cell.0 (bytes_front entry_size bytes fits) whole cell.1 in
    let so_far : AreCells layout step.0 = subst (AreCells layout) more.is (more_are_cells layout cells cell.0 are more.place more.behind told.1) in
    let others = told_are_cells layout step.0 n rest all (omega (arith, length-drop entry_size bytes)) (bytes_behind entry_size bytes fits) so_far step.2 in
    record {
      later = cell.0 ∷ others.later;
      is = others.is ∙ ap (λ (xs : Laid). xs ++ others.later) (sym more.is) ∙ append_assoc cells (cell.0 ∷ []) others.later;
      bytes_are = entries_first cell.0 others.later ∙ ap₂ (λ (xs ys : List ℕ). xs ++ ys) told.0 others.bytes_are ∙ take-append-drop entry_size bytes;
      are = others.are;
    }
