-- A file of version 1 that is carried into a patch.
use Rattle.std.proofs.Common.{◌≡◌, ◌≢◌, ◌∙◌, ℕ, ℤ, pos, negsuc, ◌+◌, ◌<◌, ◌≤◌, ◌==◌, Bool, true, false, cond, List, [], length, get_or, Option, Some, None, inl, inr, refl, sym, ap, subst, arith}
use Rattle.std.specs.Prelude.{◌&&◌, not, slice_get, unwrap_or, option_and_then, option_map, unsigned_abs, if◌then◌else◌}
use Rattle.std.specs.Option.{option_map_or}
use Rattle.std.proofs.lemmas.Bool.{cases_Bool, cases_lt}
use Rattle.std.proofs.lemmas.Bool.Decides.{eqb_tells, nat_tests}
use Rattle.std.proofs.lemmas.List.FromFn.{get_or-map-range_with_len}
use Rattle.std.proofs.lemmas.Option.{get_or_from_slice_get, slice_get_within}
use Rattle.ring_format.specs.declared.archive.Archive.{Archive}
use Rattle.ring_format.specs.Layout.{LayoutValue, layout_fault}
use Rattle.ring_format.specs.Head.{version_of}
use Rattle.ring_format.specs.Patch.{IsPlace, PatchValue, cell_at}
use Rattle.ring_format.specs.Slot.{slot_of}
use Rattle.ring_format.proofs.LawfulLayouts.{archive_bounds}
use Rattle.ring_archive.specs.Ring.{bare, cell_from, is_bucket, is_laid, laid_cell, ring_cell, stored_cell, stored_cells, value_for, value_of, zero_cell}
use Rattle.ring_archive.proofs.SlotLemmas.{slot_within}
use Rattle.archive_update.specs.Carried.{Carries, CarriesTo, IsBlank, Keeps, carried_cell, has_base, kept_of}
use Rattle.archive_update.specs.Laid.{IsAlike}
use Rattle.archive_update.proofs.LayLemmas.{Slots, slots_of, value_at, value_by, value_by_slots, value_empty}

kept_or : (b : Bool) (n : ℕ) (value : Option ℤ) → cond b (option_map {U = ℕ × ℤ} (λ v. (n, v)) value) None ≡ option_map {U = ℕ × ℤ} (λ v. (n, v)) (cond b value None)
kept_or true n value = refl
kept_or false n value = refl

-- in an archive with a base, what is laid is what is kept of the cell
carried_is : (archives : List Archive) (file : List ℕ) (place : ℕ × ℕ) (cell : ℕ × Option ℤ) → has_base archives file place.0 ≡ true → cell ≡ stored_cell archives file place
    → carried_cell archives file place ≡ option_map {U = ℕ × ℤ} (λ v. (cell.0, v)) (kept_of cell)
carried_is archives file place cell based is =
    rw based (kept_or (is_laid (stored_cell archives file place)) (stored_cell archives file place).0 (stored_cell archives file place).1)
    ∙ ap (λ (c : ℕ × Option ℤ). option_map {U = ℕ × ℤ} (λ v. (c.0, v)) (kept_of c)) (sym is)

-- in one without, nothing is laid
pub carried_none : (archives : List Archive) (file : List ℕ) (place : ℕ × ℕ) → has_base archives file place.0 ≡ false → carried_cell archives file place ≡ None
carried_none archives file place based = rw based refl

-- ---- one cell after another

-- the place has what is kept
kept_here : (old new : PatchValue) (place : ℕ × ℕ) (bucket : ℕ) (kept : Option ℤ) → cell_at old.cells place ≡ None → Keeps old new place bucket kept → cell_at new.cells place ≡ option_map {U = ℕ × ℤ} (λ v. (bucket, v)) kept
kept_here old new place bucket None blank keeps = ap (λ (p : PatchValue). cell_at p.cells place) keeps ∙ blank
kept_here old new place bucket (Some value) blank laid = laid.here

-- and each other place what it had
kept_others : (old new : PatchValue) (place other : ℕ × ℕ) (bucket : ℕ) (kept : Option ℤ) → other ≢ place → Keeps old new place bucket kept → cell_at new.cells other ≡ cell_at old.cells other
kept_others old new place other bucket None apart keeps = ap (λ (p : PatchValue). cell_at p.cells other) keeps
kept_others old new place other bucket (Some value) apart laid = laid.others other apart

kept_layout : (old new : PatchValue) (place : ℕ × ℕ) (bucket : ℕ) (kept : Option ℤ) → Keeps old new place bucket kept → new.layout ≡ old.layout
kept_layout old new place bucket None keeps = ap (λ (p : PatchValue). p.layout) keeps
kept_layout old new place bucket (Some value) laid = laid.layout

other_slot : (p q : ℕ × ℕ) → p.1 ≢ q.1 → p ≢ q
other_slot p q apart e = apart (ap (λ (r : ℕ × ℕ). r.1) e)

pub carries_more : (old new : PatchValue) (file : List ℕ) (i n : ℕ) (cell : ℕ × Option ℤ) → has_base old.layout.archives file i ≡ true → cell ≡ stored_cell old.layout.archives file (i, n)
    → Keeps old new (i, n) cell.0 (kept_of cell) → CarriesTo old file i n → CarriesTo new file i (n + 1)
carries_more old new file i n cell based is keeps so_far =
    let layout = kept_layout old new (i, n) cell.0 (kept_of cell) keeps in
    let blank : cell_at old.cells (i, n) ≡ None = ap (λ (k : ℕ). cell_at old.cells (i, k)) (let e : n ≡ n + 0 = omega arith in e) ∙ so_far.behind 0 in
    let moved = λ (place : ℕ × ℕ). ap (λ (l : LayoutValue). carried_cell l.archives file place) (sym layout) in
    record {
      before = λ place is less.
          kept_others old new (i, n) place cell.0 (kept_of cell) (λ e. absurd (let same : place.0 ≡ i = ap (λ (p : ℕ × ℕ). p.0) e in omega arith)) keeps
          ∙ so_far.before place (subst (λ (l : LayoutValue). IsPlace l place) layout is) less ∙ moved place;
      here = λ slot less. elim (cases_lt slot n) [
        | inl before ↦ kept_others old new (i, n) (i, slot) cell.0 (kept_of cell) (other_slot (i, slot) (i, n) (λ e. absurd (omega arith))) keeps ∙ so_far.here slot before ∙ moved (i, slot)
        | inr behind ↦
            let same : n ≡ slot = omega arith in
            subst (λ (k : ℕ). cell_at new.cells (i, k) ≡ carried_cell new.layout.archives file (i, k)) same
            (kept_here old new (i, n) cell.0 (kept_of cell) blank keeps ∙ sym (carried_is old.layout.archives file (i, n) cell based is) ∙ moved (i, n))
      ];
      behind = λ slot.
          kept_others old new (i, n) (i, n + 1 + slot) cell.0 (kept_of cell) (other_slot (i, n + 1 + slot) (i, n) (λ e. absurd (omega arith))) keeps
          ∙ ap (λ (k : ℕ). cell_at old.cells (i, k)) (let e : n + 1 + slot ≡ n + (1 + slot) = omega arith in e) ∙ so_far.behind (1 + slot);
      later = λ place less.
          kept_others old new (i, n) place cell.0 (kept_of cell) (λ e. absurd (let same : place.0 ≡ i = ap (λ (p : ℕ × ℕ). p.0) e in omega arith)) keeps ∙ so_far.later place less;
    }

-- the cell that stands among those that were read
pub cell_read : (archives : List Archive) (file : List ℕ) (i slot n k : ℕ) (cells : List (ℕ × Option ℤ)) (d : ℕ × Option ℤ) → cells ≡ stored_cells archives file i slot n → k < n → get_or cells k d ≡ stored_cell archives file (i, slot + k)
unfolding stored_cells
cell_read archives file i slot n k cells d are within =
    ap (λ (cs : List (ℕ × Option ℤ)). get_or cs k d) are ∙ get_or-map-range_with_len (λ place. stored_cell archives file (i, place)) slot n k (slot + k) d within refl

-- the cells of a stretch are carried
pub stretch_carried : (old new : PatchValue) (layout : LayoutValue) (file : List ℕ) (i slot count : ℕ) (cells : List (ℕ × Option ℤ)) → old.layout ≡ layout → length cells ≡ count
    → ((file : List ℕ) → has_base old.layout.archives file i ≡ true → cells ≡ stored_cells old.layout.archives file i slot (length cells) → CarriesTo old file i slot → CarriesTo new file i (slot + length cells))
    → cells ≡ stored_cells layout.archives file i slot count → has_base layout.archives file i ≡ true → CarriesTo old file i slot → CarriesTo new file i (slot + count)
stretch_carried old new layout file i slot count cells same many lay are based so_far =
    let own : has_base old.layout.archives file i ≡ true = subst (λ (l : LayoutValue). has_base l.archives file i ≡ true) (sym same) based in
    let all : cells ≡ stored_cells layout.archives file i slot (length cells) = subst (λ (n : ℕ). cells ≡ stored_cells layout.archives file i slot n) (sym many) are in
    let here : cells ≡ stored_cells old.layout.archives file i slot (length cells) = subst (λ (l : LayoutValue). cells ≡ stored_cells l.archives file i slot (length cells)) (sym same) all in
    subst (λ (n : ℕ). CarriesTo new file i (slot + n)) many (lay file own here so_far)

not_zero : (n : ℕ) → n ≢ 0 → (n == 0) ≡ false
not_zero n some = grind (arith, nat_tests)

-- an archive whose first cell was read has a base, or none
pub base_read : (archives : List Archive) (file : List ℕ) (i : ℕ) (cell : ℕ × Option ℤ) → cell ≡ stored_cell archives file (i, 0) → cell.0 ≢ 0 → has_base archives file i ≡ true
base_read archives file i cell is some = ap (λ (c : ℕ × Option ℤ). not (c.0 == 0)) (sym is) ∙ ap not (not_zero cell.0 some)

pub none_read : (archives : List Archive) (file : List ℕ) (i : ℕ) (cell : ℕ × Option ℤ) → cell ≡ stored_cell archives file (i, 0) → cell.0 ≡ 0 → has_base archives file i ≡ false
none_read archives file i cell is none = ap (λ (c : ℕ × Option ℤ). not (c.0 == 0)) (sym is) ∙ ap (λ (n : ℕ). not (n == 0)) none

-- ---- one archive after another

-- an archive is carried up to its last slot
pub carries_next : (patch : PatchValue) (file : List ℕ) (i n : ℕ) (ring : Archive) → slice_get patch.layout.archives i ≡ Some ring → ring.points ≤ n → CarriesTo patch file i n → CarriesTo patch file (i + 1) 0
carries_next patch file i n ring there all so_far = record {
  before = λ place is less. elim (cases_lt place.0 i) [
    | inl earlier ↦ so_far.before place is earlier
    | inr from ↦
        let same : i ≡ place.0 = omega arith in
        let inside : place.1 < ring.points = rw (← same, there) at is.1 in
        subst (λ (j : ℕ). cell_at patch.cells (j, place.1) ≡ carried_cell patch.layout.archives file (j, place.1)) same (so_far.here place.1 (omega arith))
  ];
  here = λ slot less. absurd (omega arith);
  behind = λ slot. so_far.later (i + 1, 0 + slot) (let less : i < i + 1 = omega arith in less);
  later = λ place less. so_far.later place (omega arith);
}

-- one without a base is passed over
pub carries_over : (patch : PatchValue) (file : List ℕ) (i : ℕ) → has_base patch.layout.archives file i ≡ false → CarriesTo patch file i 0 → CarriesTo patch file (i + 1) 0
carries_over patch file i none so_far = record {
  before = λ place is less. elim (cases_lt place.0 i) [
    | inl earlier ↦ so_far.before place is earlier
    | inr from ↦
        let same : i ≡ place.0 = omega arith in
        subst (λ (j : ℕ). cell_at patch.cells (j, place.1) ≡ carried_cell patch.layout.archives file (j, place.1)) same
        (ap (λ (k : ℕ). cell_at patch.cells (i, k)) (let e : place.1 ≡ 0 + place.1 = omega arith in e) ∙ so_far.behind place.1 ∙ sym (carried_none patch.layout.archives file (i, place.1) none))
  ];
  here = λ slot less. absurd (omega arith);
  behind = λ slot. so_far.later (i + 1, 0 + slot) (let less : i < i + 1 = omega arith in less);
  later = λ place less. so_far.later place (omega arith);
}

-- at the start nothing is laid
pub carries_none : (patch : PatchValue) (file : List ℕ) → patch.cells ≡ [] → CarriesTo patch file 0 0
carries_none patch file none = record {
  before = λ place is less. absurd (omega arith);
  here = λ slot less. absurd (omega arith);
  behind = λ slot. rw none refl;
  later = λ place less. rw none refl;
}

-- ---- what the patch reads as

-- values rest on the cells of the ring's slots alone
alike : (archive : Archive) (old new : Slots) (bucket : ℕ) → 0 < archive.step → 0 < archive.points → ((slot : ℕ) → slot < archive.points → new slot ≡ old slot) → value_at archive new bucket ≡ value_at archive old bucket
alike archive old new bucket step points same =
    let base : (new 0).0 ≡ (old 0).0 = ap (λ (cell : ℕ × Option ℤ). cell.0) (same 0 points) in
    ap (λ (b : ℕ). if is_bucket bucket archive then (if b == 0 then None else value_for bucket (new (slot_of b bucket archive))) else None) base
    ∙ ap (λ (cell : ℕ × Option ℤ). if is_bucket bucket archive then (if (old 0).0 == 0 then None else value_for bucket cell) else None)
    (same (slot_of (old 0).0 bucket archive) (slot_within (old 0).0 bucket archive step points))

-- each value of a file of version 1 fits
pub fits_old : (archives : List Archive) (file : List ℕ) (place : ℕ × ℕ) → version_of file ≡ 1 → (v : ℤ) × ((stored_cell archives file place).1 ≡ Some v)
unfolding stored_cell
fits_old archives file place old = let first : (v : ℤ) × ((cell_from 1 archives file place).1 ≡ Some v) = (_, refl) in subst (λ (n : ℕ). (v : ℤ) × ((cell_from n archives file place).1 ≡ Some v)) (sym old) first

no_size : (v : ℤ) → unsigned_abs v ≡ 0 → v ≡ pos 0
no_size (pos n) e = ap pos e
no_size (negsuc n) e = absurd (omega (arith, e))

both : (a b : Bool) → not (a && b) ≡ false → (a ≡ true) × (b ≡ true)
both true true e = (refl, refl)
both true false e = absurd cc
both false b e = absurd cc

is_zero_at : (n : ℕ) → (n == 0) ≡ true → n ≡ 0
is_zero_at n e = grind (arith, nat_tests)

-- a cell that is not laid is one of zeros
not_laid : (cell : ℕ × Option ℤ) (v : ℤ) → cell.1 ≡ Some v → is_laid cell ≡ false → cell ≡ zero_cell
not_laid cell v fits none =
    let zero_both : not ((cell.0 == 0) && option_map_or (λ value. unsigned_abs value == 0) (Some v) false) ≡ false = rw fits at none in
    let parts = both (cell.0 == 0) (unsigned_abs v == 0) zero_both in
    ap (λ (n : ℕ). (n, cell.1)) (is_zero_at cell.0 parts.0) ∙ ap (λ (o : Option ℤ). (0, o)) (fits ∙ ap (λ (z : ℤ). Some z) (no_size v (is_zero_at (unsigned_abs v) parts.1)))

-- the carried cell, and else one of zeros, is the file's
cell_back : (cell : ℕ × Option ℤ) (v : ℤ) → cell.1 ≡ Some v → unwrap_or (option_map laid_cell (option_map {U = ℕ × ℤ} (λ w. (cell.0, w)) (kept_of cell))) zero_cell ≡ cell
cell_back cell v fits = by (is_laid cell) refl
  where
    by : (b : Bool) → is_laid cell ≡ b → unwrap_or (option_map laid_cell (option_map {U = ℕ × ℤ} (λ w. (cell.0, w)) (cond b cell.1 None))) zero_cell ≡ cell
    by true laid = rw fits refl
    by false empty = sym (not_laid cell v fits empty)

-- a slot of a patch whose file is to be created
fresh_slot : (patch : PatchValue) (place : ℕ × ℕ) → patch.fresh ≡ true → ring_cell patch [] place ≡ unwrap_or (option_map laid_cell (cell_at patch.cells place)) zero_cell
unfolding ring_cell
fresh_slot patch place fresh = rw fresh refl

-- a slot of the file alone
bare_slot : (path : List ℕ) (layout : LayoutValue) (file : List ℕ) (place : ℕ × ℕ) → ring_cell (bare path layout) file place ≡ stored_cell layout.archives file place
unfolding ring_cell
bare_slot path layout file place = refl

-- the patch lays what was carried, over a file that is to be created
record HasCarried (layout : LayoutValue) (new : PatchValue) (file : List ℕ) : Type 0 where
  pub layout_is : new.layout ≡ layout
  pub fresh : new.fresh ≡ true
  pub old : version_of file ≡ 1
  pub cells : (place : ℕ × ℕ) → IsPlace layout place → cell_at new.cells place ≡ carried_cell layout.archives file place

-- the slots of an archive with a base are the file's
slot_back : (path : List ℕ) (layout : LayoutValue) (new : PatchValue) (file : List ℕ) (place : ℕ × ℕ) → HasCarried layout new file → IsPlace layout place → has_base layout.archives file place.0 ≡ true
    → ring_cell new [] place ≡ ring_cell (bare path layout) file place
slot_back path layout new file place has is based =
    let fits = fits_old layout.archives file place has.old in
    fresh_slot new place has.fresh
    ∙ ap (λ (o : Option (ℕ × ℤ)). unwrap_or (option_map laid_cell o) zero_cell) (has.cells place is ∙ carried_is layout.archives file place (stored_cell layout.archives file place) based refl)
    ∙ cell_back (stored_cell layout.archives file place) fits.0 fits.1
    ∙ sym (bare_slot path layout file place)

-- one without a base stays empty
base_none : (layout : LayoutValue) (new : PatchValue) (file : List ℕ) (i : ℕ) → HasCarried layout new file → IsPlace layout (i, 0) → has_base layout.archives file i ≡ false → (ring_cell new [] (i, 0)).0 ≡ 0
base_none layout new file i has is none =
    ap (λ (cell : ℕ × Option ℤ). cell.0) (fresh_slot new (i, 0) has.fresh
    ∙ ap (λ (o : Option (ℕ × ℤ)). unwrap_or (option_map laid_cell o) zero_cell) (has.cells (i, 0) is ∙ carried_none layout.archives file (i, 0) none))

no_base : (archives : List Archive) (file : List ℕ) (i : ℕ) → has_base archives file i ≡ false → (stored_cell archives file (i, 0)).0 ≡ 0
no_base archives file i none = by (stored_cell archives file (i, 0)).0 none
  where
    by : (n : ℕ) → not (n == 0) ≡ false → n ≡ 0
    by n e = elim (eqb_tells n 0) [ inl same ↦ same.1 | inr other ↦ absurd (let clash : true ≡ false = rw other.0 at e in cc) ]

-- the values of an archive
ring_back : (path : List ℕ) (layout : LayoutValue) (new : PatchValue) (file : List ℕ) (i bucket : ℕ) (archive : Archive) → HasCarried layout new file → slice_get layout.archives i ≡ Some archive → layout_fault layout.archives layout.factor ≡ None
    → value_at archive (slots_of new [] i) bucket ≡ value_at archive (slots_of (bare path layout) file i) bucket
ring_back path layout new file i bucket archive has there lawful =
    let inside : i < length layout.archives = slice_get_within layout.archives i archive there in
    let bounds = archive_bounds layout.archives layout.factor i archive lawful inside in
    let is : get_or layout.archives i archive ≡ archive = get_or_from_slice_get layout.archives i archive archive there in
    let step : 0 < archive.step = rw is at bounds.0 in
    let points : 0 < archive.points = rw is at bounds.2 in
    let place = λ (slot : ℕ) (below : slot < archive.points). let here : IsPlace layout (i, slot) = (inside, rw there below) in here in
    elim (cases_Bool (has_base layout.archives file i)) [
      | inl based ↦ alike archive (slots_of (bare path layout) file i) (slots_of new [] i) bucket step points (λ slot below. slot_back path layout new file (i, slot) has (place slot below) based)
      | inr none ↦
          value_empty archive (slots_of new [] i) bucket (base_none layout new file i has (place 0 points) none)
          ∙ sym (value_empty archive (slots_of (bare path layout) file i) bucket (ap (λ (cell : ℕ × Option ℤ). cell.0) (bare_slot path layout file (i, 0)) ∙ no_base layout.archives file i none))
    ]

reads_back : (path : List ℕ) (layout : LayoutValue) (new : PatchValue) (file : List ℕ) (i bucket : ℕ) → HasCarried layout new file → layout_fault layout.archives layout.factor ≡ None
    → value_of new [] i bucket ≡ value_of (bare path layout) file i bucket
reads_back path layout new file i bucket has lawful =
    value_by_slots new [] i bucket
    ∙ ap (λ (l : LayoutValue). value_by l.archives (slots_of new [] i) i bucket) has.layout_is
    ∙ by (slice_get layout.archives i) refl
    ∙ sym (value_by_slots (bare path layout) file i bucket)
  where
    by : (found : Option Archive) → slice_get layout.archives i ≡ found
        → option_and_then (λ archive. value_at archive (slots_of new [] i) bucket) found ≡ option_and_then (λ archive. value_at archive (slots_of (bare path layout) file i) bucket) found
    by None there = refl
    by (Some archive) there = ring_back path layout new file i bucket archive has there lawful

-- all archives are carried
pub carries_all : (old new : PatchValue) (given : LayoutValue) (file : List ℕ) (n : ℕ) → IsBlank given old → IsAlike old new → length given.archives ≤ n → layout_fault given.archives given.factor ≡ None → version_of file ≡ 1
    → CarriesTo new file n 0 → Carries old new file
carries_all old new given file n empty alike all lawful version done =
    let layout : new.layout ≡ old.layout = alike.layout in
    let cells = λ (place : ℕ × ℕ) (is : IsPlace old.layout place).
    let inside : place.0 < length old.layout.archives = is.0 in
    let less : place.0 < n = omega (arith, ap (λ (l : LayoutValue). length l.archives) empty.layout) in
    done.before place (subst (λ (l : LayoutValue). IsPlace l place) (sym layout) is) less ∙ ap (λ (l : LayoutValue). carried_cell l.archives file place) layout in
    let has : HasCarried old.layout new file = record { layout_is = layout; fresh = alike.fresh ∙ empty.fresh; old = version; cells = cells } in
    record {
      cells = cells;
      reads = λ rings reads i bucket. reads_back old.path old.layout new file i bucket has (subst (λ (l : LayoutValue). layout_fault l.archives l.factor ≡ None) (sym empty.layout) lawful) ∙ reads i bucket;
    }
