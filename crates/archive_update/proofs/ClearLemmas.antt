-- The slots of an empty archive are cleared.
use Rattle.std.proofs.Common.{◌≡◌, ◌≢◌, ℕ, ℤ, pos, zero, suc, ◌+◌, ◌<◌, ◌≤◌, ◌==◌, Bool, true, false, List, [], ◌∷◌, length, get_or, Option, Some, None, ◌⊎◌, inl, inr, refl, sym, ap, subst, ◌∙◌, arith}
use Rattle.std.specs.Prelude.{◌&&◌, ◌||◌, not, slice_get, filter, option_and_then, if◌then◌else◌}
use Rattle.std.specs.BTreeMap.{is_at}
use Rattle.std.specs.List.{list_any, range_with_len}
use Rattle.std.proofs.lemmas.Bool.{cases_lt}
use Rattle.std.proofs.lemmas.Bool.Decides.{eqb_tells, nat_tests}
use Rattle.ring_format.specs.declared.archive.Archive.{Archive}
use Rattle.ring_format.specs.Patch.{Cells, IsPlace, PatchValue, cell_at, place_cmp}
use Rattle.ring_format.proofs.PatchLemmas.{other_place}
use Rattle.ring_archive.specs.Ring.{base_of, is_laid, ring_cell, stale_slots, value_of}
use Rattle.archive_update.specs.Laid.{IsAlike, IsCleared, IsLaid, IsZeroed, Prepares}
use Rattle.archive_update.proofs.LayLemmas.{same_values, slots_of, value_at, value_by, value_by_slots, value_empty}

-- ---- a number of a range that passes a test stands among those that do

kept : (b : Bool) (a slot : ℕ) (xs : List ℕ) → (k : ℕ) × (k < length xs) × (get_or xs k 0 ≡ slot) → (k : ℕ) × (k < length (if b then a ∷ xs else xs)) × (get_or (if b then a ∷ xs else xs) k 0 ≡ slot)
kept true a slot xs found = (suc found.0, omega (arith, found.1), found.2)
kept false a slot xs found = found

found_in : (test : ℕ → Bool) (a n slot : ℕ) → a ≤ slot → slot < a + n → test slot ≡ true → (k : ℕ) × (k < length (filter test (range_with_len a n))) × (get_or (filter test (range_with_len a n)) k 0 ≡ slot)
found_in test a zero slot from below passes = absurd (omega arith)
found_in test a (suc n) slot from below passes =
    elim (cases_lt a slot) [
      | inl lt ↦ kept (test a) a slot (filter test (range_with_len (a + 1) n)) (found_in test (a + 1) n slot (omega arith) (omega arith) passes)
      | inr le ↦ let same : a ≡ slot = omega arith in let here : test a ≡ true = ap test same ∙ passes in rw here (0, omega arith, same)
    ]

-- ---- one slot after another

pub cleared_none : (patch : PatchValue) (i : ℕ) (slots : List ℕ) → IsCleared patch patch i slots 0
cleared_none patch i slots = record { layout = refl; zeros = λ k lt. absurd (omega arith); others = λ place. inl refl }

laid_more : (old mid new : PatchValue) (i : ℕ) (slots : List ℕ) (n : ℕ) → IsCleared old mid i slots n → IsLaid mid new (i, get_or slots n 0) (0, pos 0) → IsCleared old new i slots (n + 1)
laid_more old mid new i slots n before laid = record {
  layout = laid.layout ∙ before.layout;
  zeros = λ k lt place. elim (eqb_tells (get_or slots k 0) (get_or slots n 0)) [
    | inl same ↦ ap (λ (s : ℕ). cell_at new.cells (i, s)) same.1 ∙ laid.here
    | inr apart ↦
        let other : k ≢ n = λ e. apart.1 (ap (λ (k : ℕ). get_or slots k 0) e) in
        laid.others (i, get_or slots k 0) (λ e. apart.1 (ap (λ (p : ℕ × ℕ). p.1) e)) ∙ before.zeros k (omega arith) place
  ];
  others = λ place. elim (eqb_tells place.0 i) [
    | inl same ↦ elim (eqb_tells place.1 (get_or slots n 0)) [
      | inl also ↦
          let here : place ≡ (i, get_or slots n 0) = ap (λ (a : ℕ). (a, place.1)) same.1 ∙ ap (λ (b : ℕ). (i, b)) also.1 in
          inr (same.1, ap (λ (p : ℕ × ℕ). cell_at new.cells p) here ∙ laid.here)
      | inr apart ↦ later place (laid.others place (λ e. apart.1 (ap (λ (p : ℕ × ℕ). p.1) e))) (before.others place)
    ]
    | inr apart ↦ later place (laid.others place (λ e. apart.1 (ap (λ (p : ℕ × ℕ). p.0) e))) (before.others place)
  ];
}
  where
    later : (place : ℕ × ℕ) → cell_at new.cells place ≡ cell_at mid.cells place → (cell_at mid.cells place ≡ cell_at old.cells place) ⊎ ((place.0 ≡ i) × (cell_at mid.cells place ≡ Some (0, pos 0)))
        → (cell_at new.cells place ≡ cell_at old.cells place) ⊎ ((place.0 ≡ i) × (cell_at new.cells place ≡ Some (0, pos 0)))
    later place e (inl same) = inl (e ∙ same)
    later place e (inr zeroed) = inr (zeroed.0, e ∙ zeroed.1)

passed_over : (old mid : PatchValue) (i : ℕ) (slots : List ℕ) (n : ℕ) → IsCleared old mid i slots n → (IsPlace mid.layout (i, get_or slots n 0) → ⊥) → IsCleared old mid i slots (n + 1)
passed_over old mid i slots n before nowhere = record {
  layout = before.layout;
  zeros = λ k lt place. elim (cases_lt k n) [
    | inl less ↦ before.zeros k less place
    | inr ge ↦ absurd (nowhere (subst (λ layout. IsPlace layout (i, get_or slots n 0)) (sym before.layout) (let same : k ≡ n = omega arith in subst (λ (k : ℕ). IsPlace old.layout (i, get_or slots k 0)) same place)))
  ];
  others = before.others;
}

pub cleared_more : (old mid new : PatchValue) (i : ℕ) (slots : List ℕ) (n : ℕ) → IsCleared old mid i slots n → IsZeroed mid new (i, get_or slots n 0) → IsCleared old new i slots (n + 1)
cleared_more old mid new i slots n before (inl laid) = laid_more old mid new i slots n before laid.1
cleared_more old mid new i slots n before (inr over) = subst (λ new. IsCleared old new i slots (n + 1)) (sym over.1) (passed_over old mid i slots n before over.0)

-- ---- an empty archive

cell_after : (old new : PatchValue) (i n : ℕ) (slots : List ℕ) (file : List ℕ) (place : ℕ × ℕ) → IsAlike old new → IsCleared old new i slots n
    → (ring_cell new file place ≡ ring_cell old file place) ⊎ ((place.0 ≡ i) × (ring_cell new file place ≡ (0, Some (pos 0))))
unfolding ring_cell
cell_after old new i n slots file place alike cleared =
    elim (cleared.others place) [
      | inl same ↦ inl (rw (same, alike.layout, alike.fresh) refl)
      | inr zeroed ↦ inr (zeroed.0, rw zeroed.1 refl)
    ]

zero_cell : (new : PatchValue) (file : List ℕ) (place : ℕ × ℕ) → cell_at new.cells place ≡ Some (0, pos 0) → (ring_cell new file place).0 ≡ 0
unfolding ring_cell
zero_cell new file place e = rw e refl

zero_still : (old new : PatchValue) (i : ℕ) (file : List ℕ) (place : ℕ × ℕ) → (ring_cell new file place ≡ ring_cell old file place) ⊎ ((place.0 ≡ i) × (ring_cell new file place ≡ (0, Some (pos 0)))) → (ring_cell old file place).0 ≡ 0 → (ring_cell new file place).0 ≡ 0
zero_still old new i file place (inl same) none = ap (λ (cell : ℕ × Option ℤ). cell.0) same ∙ none
zero_still old new i file place (inr zeroed) none = ap (λ (cell : ℕ × Option ℤ). cell.0) zeroed.1

not_laid : (cell : ℕ × Option ℤ) → is_laid cell ≡ false → cell.0 ≡ 0
not_laid cell e = elim (eqb_tells cell.0 0) [ inl none ↦ none.1 | inr some ↦ absurd (let clash : true ≡ false = rw some.0 at e in cc) ]

stale_there : (patch : PatchValue) (file : List ℕ) (i : ℕ) (archive : Archive) → slice_get patch.layout.archives i ≡ Some archive
    → stale_slots patch file i ≡ filter (λ slot. is_laid (ring_cell patch file (i, slot))) (range_with_len 0 archive.points)
unfolding stale_slots
stale_there patch file i archive e = rw e refl

value_by_empty : (archives : List Archive) (cells : ℕ → ℕ × Option ℤ) (i bucket : ℕ) → (cells 0).0 ≡ 0 → value_by archives cells i bucket ≡ None
value_by_empty archives cells i bucket none = by (slice_get archives i)
  where
    by : (found : Option Archive) → option_and_then (λ archive. value_at archive cells bucket) found ≡ None
    by None = refl
    by (Some archive) = value_empty archive cells bucket none

same_unless : (old new : PatchValue) (i k : ℕ) (file : List ℕ) (slot : ℕ) → k ≢ i → (ring_cell new file (k, slot) ≡ ring_cell old file (k, slot)) ⊎ ((k ≡ i) × (ring_cell new file (k, slot) ≡ (0, Some (pos 0)))) → ring_cell new file (k, slot) ≡ ring_cell old file (k, slot)
same_unless old new i k file slot apart (inl same) = same
same_unless old new i k file slot apart (inr zeroed) = absurd (apart zeroed.0)

pub prepares_empty : (old new : PatchValue) (i : ℕ) (slots : List ℕ) (file : List ℕ) (archive : Archive) → slice_get old.layout.archives i ≡ Some archive → IsAlike old new → base_of old file i ≡ 0
    → slots ≡ stale_slots old file i → IsCleared old new i slots (length slots) → Prepares old new i 0 file
prepares_empty old new i slots file archive found alike none stale cleared =
    let after = λ (place : ℕ × ℕ). cell_after old new i (length slots) slots file place alike cleared in
    let first = zero_still old new i file (i, 0) (after (i, 0)) none in
    let listed = stale ∙ stale_there old file i archive found in (
      record {
        first = first;
        clear = λ same slot place.
            let within : slot < archive.points = rw (alike.layout, found) at place.1 in
            by slot within (subst (λ layout. IsPlace layout (i, slot)) alike.layout place) (is_laid (ring_cell old file (i, slot))) refl listed (after (i, slot));
      },
      λ rings reads k bucket. elim (eqb_tells k i) [
        | inl same ↦
            ap (λ (k : ℕ). value_of new file k bucket) same.1 ∙ value_by_slots new file i bucket ∙ value_by_empty new.layout.archives (slots_of new file i) i bucket first
            ∙ sym (value_by_empty old.layout.archives (slots_of old file i) i bucket none) ∙ sym (value_by_slots old file i bucket) ∙ ap (λ (k : ℕ). value_of old file k bucket) (sym same.1) ∙ reads k bucket
        | inr apart ↦ same_values old new file k bucket alike.layout (λ slot. same_unless old new i k file slot apart.1 (after (k, slot))) ∙ reads k bucket
      ],
    )
  where
    by : (slot : ℕ) → slot < archive.points → IsPlace old.layout (i, slot) → (b : Bool) → is_laid (ring_cell old file (i, slot)) ≡ b → slots ≡ filter (λ slot. is_laid (ring_cell old file (i, slot))) (range_with_len 0 archive.points)
        → (ring_cell new file (i, slot) ≡ ring_cell old file (i, slot)) ⊎ ((i ≡ i) × (ring_cell new file (i, slot) ≡ (0, Some (pos 0)))) → (ring_cell new file (i, slot)).0 ≡ 0
    by slot within place true laid listed after =
        let at = found_in (λ slot. is_laid (ring_cell old file (i, slot))) 0 archive.points slot (omega arith) (omega arith) laid in
        let fits : at.0 < length slots = rw listed at.1 in
        let there : get_or slots at.0 0 ≡ slot = rw listed at.2 in
        ap (λ (s : ℕ). (ring_cell new file (i, s)).0) (sym there) ∙ zero_cell new file (i, get_or slots at.0 0) (cleared.zeros at.0 fits (subst (λ (s : ℕ). IsPlace old.layout (i, s)) (sym there) place))
    by slot within place false empty listed after = zero_still old new i file (i, slot) after (not_laid (ring_cell old file (i, slot)) empty)

some_archive : (archives : List Archive) (i : ℕ) → i < length archives → (archive : Archive) × (slice_get archives i ≡ Some archive)
some_archive [] i lt = absurd (omega arith)
some_archive (archive ∷ archives) zero lt = (archive, refl)
some_archive (archive ∷ archives) (suc i) lt = some_archive archives i (omega arith)

pub prepares_stale : (old new : PatchValue) (i : ℕ) (slots : List ℕ) (file : List ℕ) → i < length old.layout.archives → IsAlike old new → base_of old file i ≡ 0
    → slots ≡ stale_slots old file i → IsCleared old new i slots (length slots) → Prepares old new i 0 file
prepares_stale old new i slots file within alike none stale cleared =
    let there = some_archive old.layout.archives i within in
    prepares_empty old new i slots file there.0 there.1 alike none stale cleared

-- ---- a file that is to be created

neither : (a b : Bool) → (a || b) ≡ false → (a ≡ false) × (b ≡ false)
neither true b e = absurd cc
neither false b e = (refl, e)

no_cell : (cells : Cells) (i slot : ℕ) → list_any (λ cell. cell.0.0 == i) cells ≡ false → cell_at cells (i, slot) ≡ None
no_cell [] i slot none = refl
no_cell (cell ∷ cells) i slot none =
    let parts = neither (cell.0.0 == i) (list_any (λ cell. cell.0.0 == i) cells) none in
    let apart : is_at (place_cmp (i, slot)) cell.0 ≡ false = other_place (i, slot) cell.0 (λ e. absurd (let same : cell.0.0 ≡ i = ap (λ (p : ℕ × ℕ). p.0) e in grind (arith, nat_tests, parts.0, same))) in
    rw apart (no_cell cells i slot parts.1)

blank_cell : (patch : PatchValue) (file : List ℕ) (i slot : ℕ) → patch.fresh ≡ true → list_any (λ cell. cell.0.0 == i) patch.cells ≡ false → (ring_cell patch file (i, slot)).0 ≡ 0
unfolding ring_cell
blank_cell patch file i slot fresh none = rw (no_cell patch.cells i slot none, fresh) refl

both_true : (a b : Bool) → (a && not b) ≡ true → (a ≡ true) × (b ≡ false)
both_true true true e = absurd cc
both_true true false e = (refl, refl)
both_true false b e = absurd cc

pub prepares_blank : (patch : PatchValue) (i : ℕ) (file : List ℕ) → (patch.fresh && not (list_any (λ cell. cell.0.0 == i) patch.cells)) ≡ true → base_of patch file i ≡ 0 → Prepares patch patch i 0 file
prepares_blank patch i file blank base =
    let parts = both_true patch.fresh (list_any (λ cell. cell.0.0 == i) patch.cells) blank in
    (record { first = base; clear = λ same slot place. blank_cell patch file i slot parts.0 parts.1 }, λ rings reads. reads)
