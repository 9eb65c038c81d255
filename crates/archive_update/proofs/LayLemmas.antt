-- What a cell makes of the archives.
use Rattle.std.proofs.Common.{◌≡◌, ◌≢◌, ℕ, ℤ, ◌%◌, ◌<◌, ◌≤◌, ◌==◌, Bool, true, false, List, [], ◌∷◌, ◌++◌, length, Option, Some, None, ◌⊎◌, inl, inr, refl, sym, ap, subst, ◌∙◌, arith}
use Rattle.std.specs.Prelude.{slice_get, unwrap_or, option_map, if◌then◌else◌, option_and_then}
use Rattle.std.proofs.lemmas.Bool.Decides.{eqb_tells, nat_tests}
use Rattle.std.proofs.lemmas.List.Sums.{fold-append}
use Rattle.ring_format.specs.declared.archive.Archive.{Archive}
use Rattle.ring_format.specs.Layout.{LayoutValue, retention_of}
use Rattle.ring_format.specs.Patch.{Cells, PatchValue, cell_at}
use Rattle.ring_format.specs.Slot.{slot_of}
use Rattle.ring_archive.specs.Ring.{Rings, base_of, is_bucket, laid_cell, ring_cell, value_for, value_in, value_of}
use Rattle.archive_update.specs.Batch.{Values, all_written, step_of, written, with_values, with_writes}
use Rattle.archive_update.specs.Laid.{IsAlike, IsBucketOf, IsLaid, Lays, Prepares, Writes}
use Rattle.archive_update.proofs.SlotLemmas.{rebased, slot_agrees, slot_of_base, slot_within}

-- ---- the values of an archive from the cells of its slots

abbrev pub Slots : Type 0
Slots = ℕ → ℕ × Option ℤ

abbrev pub value_at : Archive → Slots → ℕ → Option ℤ
value_at archive cells bucket =
    if is_bucket bucket archive then (if (cells 0).0 == 0 then None else value_for bucket (cells (slot_of (cells 0).0 bucket archive))) else None

abbrev pub value_by : List Archive → Slots → ℕ → ℕ → Option ℤ
value_by archives cells i bucket = option_and_then (λ archive. value_at archive cells bucket) (slice_get archives i)

abbrev pub slots_of : PatchValue → List ℕ → ℕ → Slots
slots_of patch file i = λ slot. ring_cell patch file (i, slot)

pub value_by_slots : (patch : PatchValue) (file : List ℕ) (i bucket : ℕ) → value_of patch file i bucket ≡ value_by patch.layout.archives (slots_of patch file i) i bucket
unfolding value_of value_in
value_by_slots patch file i bucket = refl

-- archives with the same cells have the same values
pub same_values : (old new : PatchValue) (file : List ℕ) (i bucket : ℕ) → new.layout ≡ old.layout → ((slot : ℕ) → ring_cell new file (i, slot) ≡ ring_cell old file (i, slot)) → value_of new file i bucket ≡ value_of old file i bucket
same_values old new file i bucket layout same =
    let cells : slots_of new file i ≡ slots_of old file i = λ j slot. same slot j in
    value_by_slots new file i bucket ∙ ap (λ (cells : Slots). value_by new.layout.archives cells i bucket) cells
    ∙ ap (λ layout. value_by layout.archives (slots_of old file i) i bucket) layout ∙ sym (value_by_slots old file i bucket)

-- ---- one cell

pub laid_here : (old new : PatchValue) (place : ℕ × ℕ) (cell : ℕ × ℤ) (file : List ℕ) → IsLaid old new place cell → ring_cell new file place ≡ laid_cell cell
unfolding ring_cell
laid_here old new place cell file laid = rw laid.here refl

pub laid_other : (old new : PatchValue) (place other : ℕ × ℕ) (cell : ℕ × ℤ) (file : List ℕ) → IsLaid old new place cell → other ≢ place → ring_cell new file other ≡ ring_cell old file other
unfolding ring_cell
laid_other old new place other cell file laid ne = rw (laid.others other ne, laid.layout, laid.fresh) refl

-- ---- a bucket written

bucket_facts : (k : ℕ) (archive : Archive) → is_bucket k archive ≡ true → (0 < k) × (k % archive.step ≡ 0)
bucket_facts k archive e = (grind (arith, nat_tests), grind (arith, nat_tests))

not_zero : (k : ℕ) → 0 < k → (k == 0) ≡ false
not_zero k some = grind (arith, nat_tests)

-- each bucket has a slot, of which the values speak before and after
record Turns (archive : Archive) (old new : Slots) (b slot : ℕ) (place : ℕ → ℕ) : Type 0 where
  before : (k : ℕ) → is_bucket k archive ≡ true → value_at archive old k ≡ value_for k (old (place k))
  after : (k : ℕ) → is_bucket k archive ≡ true → value_at archive new k ≡ value_for k (new (place k))
  own : place b ≡ slot
  agrees : (k : ℕ) → is_bucket k archive ≡ true → (place k == place b) ≡ (k % retention_of archive == b % retention_of archive)

value_for_other : (k : ℕ) (cell : ℕ × Option ℤ) → cell.0 ≡ 0 → 0 < k → value_for k cell ≡ None
value_for_other k cell none some = let other : (cell.0 == k) ≡ false = grind (arith, nat_tests) in rw other refl

value_from_base : (archive : Archive) (cells : Slots) (k base : ℕ) → is_bucket k archive ≡ true → (cells 0).0 ≡ base → (base == 0) ≡ false → value_at archive cells k ≡ value_for k (cells (slot_of base k archive))
value_from_base archive cells k base bucket at some = rw (bucket, at, some) refl

either : {X : Type 0} (b : Bool) (x : X) → (if b then x else x) ≡ x
either true x = refl
either false x = refl

pub value_empty : (archive : Archive) (cells : Slots) (k : ℕ) → (cells 0).0 ≡ 0 → value_at archive cells k ≡ None
value_empty archive cells k at = rw at (either (is_bucket k archive) None)

-- the facts on a cell that goes into slot `slot` of an archive with these cells
record Puts (archive : Archive) (old new : Slots) (base b slot : ℕ) (v : ℤ) : Type 0 where
  step : 1 ≤ archive.step
  points : 1 ≤ archive.points
  bucket : is_bucket b archive ≡ true
  first : (old 0).0 ≡ base
  clear : base ≡ 0 → (k : ℕ) → k < archive.points → (old k).0 ≡ 0
  at : slot_of base b archive ≡ slot
  here : new slot ≡ (b, Some v)
  others : (k : ℕ) → k ≢ slot → new k ≡ old k

turns_empty : (archive : Archive) (old new : Slots) (b slot : ℕ) (v : ℤ) → Puts archive old new 0 b slot v → Turns archive old new b slot (λ k. slot_of b k archive)
turns_empty archive old new b slot v puts =
    let own_bucket = bucket_facts b archive puts.bucket in
    let some = not_zero b own_bucket.0 in
    let first : 0 ≡ slot = puts.at in
    let base : (new 0).0 ≡ b = ap (λ (k : ℕ). (new k).0) first ∙ ap (λ (cell : ℕ × Option ℤ). cell.0) puts.here in
    record {
      before = λ k bucket.
          let facts = bucket_facts k archive bucket in
          value_empty archive old k puts.first ∙ sym (value_for_other k (old (slot_of b k archive)) (puts.clear refl (slot_of b k archive) (slot_within b k archive puts.step puts.points some facts.1)) facts.0);
      after = λ k bucket. value_from_base archive new k b bucket base some;
      own = slot_of_base b archive puts.step puts.points some ∙ first;
      agrees = λ k bucket. slot_agrees b k b archive puts.step puts.points some (bucket_facts k archive bucket).1 own_bucket.1;
    }

turns_first : (archive : Archive) (old new : Slots) (base b : ℕ) (v : ℤ) → Puts archive old new base b 0 v → (base == 0) ≡ false → Turns archive old new b 0 (λ k. slot_of base k archive)
turns_first archive old new base b v puts some =
    let own_bucket = bucket_facts b archive puts.bucket in
    let some2 = not_zero b own_bucket.0 in
    let first : (new 0).0 ≡ b = ap (λ (cell : ℕ × Option ℤ). cell.0) puts.here in
    record {
      before = λ k bucket. value_from_base archive old k base bucket puts.first some;
      after = λ k bucket. value_from_base archive new k b bucket first some2 ∙ ap (λ (s : ℕ). value_for k (new s)) (rebased base b k archive puts.step puts.points some some2 own_bucket.1 (bucket_facts k archive bucket).1 puts.at);
      own = puts.at;
      agrees = λ k bucket. slot_agrees base k b archive puts.step puts.points some (bucket_facts k archive bucket).1 own_bucket.1;
    }

turns_behind : (archive : Archive) (old new : Slots) (base b slot : ℕ) (v : ℤ) → Puts archive old new base b slot v → (base == 0) ≡ false → slot ≢ 0 → Turns archive old new b slot (λ k. slot_of base k archive)
turns_behind archive old new base b slot v puts some far =
    let own_bucket = bucket_facts b archive puts.bucket in
    let first : (new 0).0 ≡ base = ap (λ (cell : ℕ × Option ℤ). cell.0) (puts.others 0 (λ e. far (sym e))) ∙ puts.first in
    record {
      before = λ k bucket. value_from_base archive old k base bucket puts.first some;
      after = λ k bucket. value_from_base archive new k base bucket first some;
      own = puts.at;
      agrees = λ k bucket. slot_agrees base k b archive puts.step puts.points some (bucket_facts k archive bucket).1 own_bucket.1;
    }

no_bucket : (archive : Archive) (cells : Slots) (k : ℕ) → is_bucket k archive ≡ false → value_at archive cells k ≡ None
no_bucket archive cells k e = rw e refl

-- what the values are afterwards
written_by : (archive : Archive) (old new : Slots) (base b slot : ℕ) (v : ℤ) (place : ℕ → ℕ) → Puts archive old new base b slot v → Turns archive old new b slot place
    → (k : ℕ) → value_at archive new k ≡ written (retention_of archive) (value_at archive old) (b, v) k
written_by archive old new base b slot v place puts turns k = by (is_bucket k archive) refl
  where
    in_slot : is_bucket k archive ≡ true → place k ≡ slot → value_at archive new k ≡ written (retention_of archive) (value_at archive old) (b, v) k
    in_slot bucket there =
        let shares : (k % retention_of archive == b % retention_of archive) ≡ true = sym (turns.agrees k bucket) ∙ grind (arith, nat_tests, turns.own) in
        let value : value_at archive new k ≡ value_for k (b, Some v) = turns.after k bucket ∙ ap (λ (s : ℕ). value_for k (new s)) there ∙ ap (value_for k) puts.here in
        value ∙ elim (eqb_tells k b) [
          | inl same ↦ let turned : (b == k) ≡ true = grind (arith, nat_tests) in rw (same.0, turned) refl
          | inr apart ↦ let turned : (b == k) ≡ false = grind (arith, nat_tests) in rw (apart.0, turned, shares) refl
        ]

    elsewhere : is_bucket k archive ≡ true → place k ≢ slot → value_at archive new k ≡ written (retention_of archive) (value_at archive old) (b, v) k
    elsewhere bucket far =
        let apart : (k % retention_of archive == b % retention_of archive) ≡ false = sym (turns.agrees k bucket) ∙ grind (arith, nat_tests, turns.own) in
        let other : (k == b) ≡ false = elim (eqb_tells k b) [ inl same ↦ absurd (far (ap place same.1 ∙ turns.own)) | inr differs ↦ differs.0 ] in
        turns.after k bucket ∙ ap (value_for k) (puts.others (place k) far) ∙ sym (turns.before k bucket) ∙ rw (other, apart) refl

    by : (is : Bool) → is_bucket k archive ≡ is → value_at archive new k ≡ written (retention_of archive) (value_at archive old) (b, v) k
    by true bucket = elim (eqb_tells (place k) slot) [ inl same ↦ in_slot bucket same.1 | inr far ↦ elsewhere bucket far.1 ]
    by false bucket =
        let other : (k == b) ≡ false = elim (eqb_tells k b) [ inl same ↦ absurd (let clash : true ≡ false = sym puts.bucket ∙ ap (λ (x : ℕ). is_bucket x archive) (sym same.1) ∙ bucket in cc) | inr differs ↦ differs.0 ] in
        let none : value_at archive old k ≡ None = no_bucket archive old k bucket in
        no_bucket archive new k bucket ∙ rw (other, none) (sym (either (k % retention_of archive == b % retention_of archive) None))

put_value : (archive : Archive) (old new : Slots) (base b slot : ℕ) (v : ℤ) → Puts archive old new base b slot v → (k : ℕ) → value_at archive new k ≡ written (retention_of archive) (value_at archive old) (b, v) k
put_value archive old new base b slot v puts k =
    elim (eqb_tells base 0) [
      | inl none ↦ let empty = subst (λ (base : ℕ). Puts archive old new base b slot v) none.1 puts in written_by archive old new 0 b slot v (λ k. slot_of b k archive) empty (turns_empty archive old new b slot v empty) k
      | inr some ↦ elim (eqb_tells slot 0) [
        | inl first ↦ let front = subst (λ (slot : ℕ). Puts archive old new base b slot v) first.1 puts in written_by archive old new base b 0 v (λ k. slot_of base k archive) front (turns_first archive old new base b v front some.0) k
        | inr behind ↦ written_by archive old new base b slot v (λ k. slot_of base k archive) puts (turns_behind archive old new base b slot v puts some.0 behind.1) k
      ]
    ]

-- ---- a cell laid by a patch

is_true : (k : ℕ) → (k == k) ≡ true
is_true k = elim (eqb_tells k k) [ inl same ↦ same.0 | inr apart ↦ absurd (apart.1 refl) ]

written_alike : (retention : ℕ) (these those : Values) (w : ℕ × ℤ) (k : ℕ) → these k ≡ those k → written retention these w k ≡ written retention those w k
written_alike retention these those w k e = ap (λ (value : Option ℤ). if k == w.0 then Some w.1 else (if k % retention == w.0 % retention then None else value)) e

values_there : (patch : PatchValue) (file : List ℕ) (i k : ℕ) (archive : Archive) → slice_get patch.layout.archives i ≡ Some archive → value_of patch file i k ≡ value_at archive (slots_of patch file i) k
values_there patch file i k archive e = value_by_slots patch file i k ∙ rw e refl

-- the base afterwards: a bucket in the first slot is the new one
abbrev pub IsBaseAfter : ℕ → ℕ → ℕ → ℕ → Type 0
IsBaseAfter base b slot later = ((slot ≡ 0) × (later ≡ b)) ⊎ ((slot ≢ 0) × (later ≡ base))

empty_first : (base b : ℕ) (archive : Archive) (slot : ℕ) → slot_of base b archive ≡ slot → slot ≢ 0 → base ≢ 0
empty_first base b archive slot at far none = far (sym at ∙ ap (λ (base : ℕ). slot_of base b archive) none)

base_afterwards : (old new : PatchValue) (i base b slot later : ℕ) (v : ℤ) (file : List ℕ) → IsLaid old new (i, slot) (b, v) → base_of old file i ≡ base → IsBaseAfter base b slot later → base_of new file i ≡ later
base_afterwards old new i base b slot later v file laid at (inl first) =
    let here = laid_here old new (i, slot) (b, v) file laid in
    ap (λ (s : ℕ). (ring_cell new file (i, s)).0) (sym first.0) ∙ ap (λ (cell : ℕ × Option ℤ). cell.0) here ∙ sym first.1
base_afterwards old new i base b slot later v file laid at (inr behind) =
    let kept = laid_other old new (i, slot) (i, 0) (b, v) file laid (λ e. behind.0 (sym (ap (λ (p : ℕ × ℕ). p.1) e))) in
    ap (λ (cell : ℕ × Option ℤ). cell.0) kept ∙ at ∙ sym behind.1

some_base : (base b slot later : ℕ) (archive : Archive) → slot_of base b archive ≡ slot → 0 < b → IsBaseAfter base b slot later → later ≢ 0
some_base base b slot later archive at some (inl first) none = omega arith
some_base base b slot later archive at some (inr behind) none = empty_first base b archive slot at behind.0 (sym behind.1 ∙ none)

pub lays_value : (old new : PatchValue) (i base b slot later : ℕ) (v : ℤ) (archive : Archive) → slice_get old.layout.archives i ≡ Some archive → i < length old.layout.archives → 1 ≤ archive.step → 1 ≤ archive.points
    → IsBucketOf archive.step b → slot_of base b archive ≡ slot → IsLaid old new (i, slot) (b, v) → IsBaseAfter base b slot later → Lays old new i base later ((b, v) ∷ [])
lays_value old new i base b slot later v archive found within step points bucket at laid after = λ file rings ready reads.
    let is : is_bucket b archive ≡ true = grind (arith, nat_tests, bucket.0, bucket.1) in
    let puts : Puts archive (slots_of old file i) (slots_of new file i) base b slot v = record {
      step = step;
      points = points;
      bucket = is;
      first = ready.first;
      clear = λ none k lt. ready.clear none k (within, rw found lt);
      at = at;
      here = laid_here old new (i, slot) (b, v) file laid;
      others = λ k ne. laid_other old new (i, slot) (i, k) (b, v) file laid (λ e. ne (ap (λ (p : ℕ × ℕ). p.1) e));
    } in
    let found_new : slice_get new.layout.archives i ≡ Some archive = rw laid.layout found in
    let values = λ (k : ℕ). values_there new file i k archive found_new ∙ put_value archive (slots_of old file i) (slots_of new file i) base b slot v puts k
    ∙ written_alike (retention_of archive) (value_at archive (slots_of old file i)) (rings i) (b, v) k (sym (values_there old file i k archive found) ∙ reads i k) in (
      record {
        first = base_afterwards old new i base b slot later v file laid ready.first after;
        clear = λ none. absurd (some_base base b slot later archive at bucket.0 after none);
      },
      λ k bucket. elim (eqb_tells k i) [
        | inl same ↦ rw (same.0, found) (ap (λ (k : ℕ). value_of new file k bucket) same.1 ∙ values bucket)
        | inr apart ↦ rw apart.0 (same_values old new file k bucket laid.layout (λ s. laid_other old new (i, slot) (k, s) (b, v) file laid (λ e. apart.1 (ap (λ (p : ℕ × ℕ). p.0) e))) ∙ reads k bucket)
      ],
    )

-- ---- values one after another

own_values : (rings : Rings) (i : ℕ) (values : Values) → with_values rings i values i ≡ values
own_values rings i values = rw (is_true i) refl

pub joined_writes : (archives : List Archive) (rings : Rings) (i : ℕ) (ws vs : List (ℕ × ℤ)) (k : ℕ) → with_writes archives (with_writes archives rings i ws) i vs k ≡ with_writes archives rings i (ws ++ vs) k
joined_writes archives rings i ws vs k =
    let retention : ℕ = unwrap_or (option_map retention_of (slice_get archives i)) 0 in
    let both : all_written retention (with_writes archives rings i ws i) vs ≡ all_written retention (rings i) (ws ++ vs) =
    ap (λ (values : Values). all_written retention values vs) (own_values rings i (all_written retention (rings i) ws)) ∙ sym (fold-append (written retention) (rings i) ws vs) in
    elim (eqb_tells k i) [
      | inl same ↦ rw same.0 both
      | inr apart ↦ rw apart.0 refl
    ]

pub no_writes : (archives : List Archive) (rings : Rings) (i k : ℕ) → with_writes archives rings i [] k ≡ rings k
no_writes archives rings i k = elim (eqb_tells k i) [ inl same ↦ rw same.0 (ap rings (sym same.1)) | inr apart ↦ rw apart.0 refl ]

pub lays_none : (patch : PatchValue) (i base : ℕ) → Lays patch patch i base base []
lays_none patch i base = λ file rings ready reads. (ready, λ k bucket. reads k bucket ∙ ap (λ (values : Values). values bucket) (sym (no_writes patch.layout.archives rings i k)))

pub lays_more : (a b c : PatchValue) (i base mid later : ℕ) (ws vs : List (ℕ × ℤ)) → b.layout ≡ a.layout → Lays a b i base mid ws → Lays b c i mid later vs → Lays a c i base later (ws ++ vs)
lays_more a b c i base mid later ws vs layout first second = λ file rings ready reads.
    let one = first file rings ready reads in
    let two = second file (with_writes a.layout.archives rings i ws) one.0 one.1 in (
      two.0,
      λ k bucket. two.1 k bucket ∙ ap (λ layout. with_writes layout.archives (with_writes a.layout.archives rings i ws) i vs k bucket) layout
          ∙ ap (λ (values : Values). values bucket) (joined_writes a.layout.archives rings i ws vs k),
    )

pub writes_prepared : (a b c : PatchValue) (layout : LayoutValue) (i base later : ℕ) (writes : List (ℕ × ℤ)) (file : List ℕ) → b.layout ≡ layout → Prepares a b i base file → Lays b c i base later writes → Writes layout.archives a c i writes file
writes_prepared a b c layout i base later writes file same prepared lays = λ rings reads k bucket.
    (lays file rings prepared.0 (prepared.1 rings reads)).1 k bucket ∙ ap (λ (layout : LayoutValue). with_writes layout.archives rings i writes k bucket) same

-- the base afterwards is that of the file under the later patch
pub base_prepared : (a b c : PatchValue) (i base later : ℕ) (writes : List (ℕ × ℤ)) (file : List ℕ) → Prepares a b i base file → Lays b c i base later writes → later ≡ base_of c file i
base_prepared a b c i base later writes file prepared lays = sym (lays file (value_of b file) prepared.0 (λ k bucket. refl)).0.first

pub step_there : (archives : List Archive) (i b : ℕ) (archive : Archive) → slice_get archives i ≡ Some archive → IsBucketOf (step_of archives i) b → IsBucketOf archive.step b
step_there archives i b archive found bucket = (bucket.0, rw found at bucket.1)

pub alike_more : (a b c : PatchValue) → IsAlike a b → IsAlike b c → IsAlike a c
alike_more a b c first second = record { path = second.path ∙ first.path; layout = second.layout ∙ first.layout; fresh = second.fresh ∙ first.fresh; grows = λ none. first.grows (second.grows none) }

pub alike_same : (patch : PatchValue) → IsAlike patch patch
alike_same patch = record { path = refl; layout = refl; fresh = refl; grows = λ none. none }

nowhere : (cells : Cells) (place : ℕ × ℕ) (cell : ℕ × ℤ) → cells ≡ [] → cell_at cells place ≡ Some cell → ⊥
nowhere cells place cell none here = let there : None ≡ Some cell = rw none at here in cc

-- a patch that lays a cell is not without cells
pub not_empty : (old new : PatchValue) (place : ℕ × ℕ) (cell : ℕ × ℤ) → IsLaid old new place cell → new.cells ≢ []
not_empty old new place cell laid none = nowhere new.cells place cell none laid.here

pub no_items : {X : Type 0} (xs : List X) → length xs ≡ 0 → xs ≡ []
no_items [] e = refl
no_items (x ∷ xs) e = absurd (omega arith)
