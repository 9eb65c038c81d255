-- What times are read of moments.
use Rattle.std.proofs.Common.{◌≡◌, ℕ, ◌+◌, ◌^◌, ◌<◌, ◌≤◌, min, nat_lt, Bool, true, false, ◌⊎◌, inl, inr, ℤ, pos, negsuc, neg_ℤ, ◌+ℤ◌, ◌-ℤ◌, ◌<ℤ◌, ◌==◌, ◌&&◌, not, List, [], ◌∷◌, length, option_map, cond, Option, Some, None, Err, refl, sym, ap, ◌∙◌, arith}
use Rattle.std.proofs.lemmas.Int.{ints}
use Rattle.std.proofs.lemmas.Bool.{cases_lt, lt-leb, and_parts, eqb-true}
use Rattle.time_range.specs.declared.fault.TimeFault.TheVariants.{BeforeEpoch, NotTime, TooLate}
use Rattle.time_range.specs.SpanOf.{latest}
use Rattle.time_range.specs.TimeOf.{is_count, is_digits, moved, offset_of, time_result}
use Rattle.time_range.specs.Dates.{is_meant_as_date}
use Rattle.time_range.specs.Columns.{fronts, kept}
use Rattle.time_range.specs.Spans.{seconds_of, spans_of}
use Rattle.time_range.proofs.ColumnLemmas.{seconds_are_fronts}
use Rattle.jiff_core.specs.Calendar.{IsWithin}
use Rattle.std.specs.List.{IsFirstAndRest, list_all}
use Rattle.std.specs.Char.{is_ascii_digit}

-- ---- moments out of reach

pub too_late : (z : ℤ) → pos latest <ℤ z → time_result (Some z) ≡ Err TooLate
too_late (pos n) h = rw (lt-leb n latest (omega (arith, ints))) refl
too_late (negsuc n) h = absurd (omega (arith, ints))

pub before_epoch : (z : ℤ) → z <ℤ pos 0 → time_result (Some z) ≡ Err BeforeEpoch
before_epoch (pos n) h = absurd (omega (arith, ints))
before_epoch (negsuc n) h = refl

-- two moments that are the same, or out of reach on the same side
abbrev pub AreAlike : ℤ → ℤ → Type 0
AreAlike x y = (x ≡ y) ⊎ (((pos latest <ℤ x) × (pos latest <ℤ y)) ⊎ ((x <ℤ pos 0) × (y <ℤ pos 0)))

pub alike : (x y : ℤ) → AreAlike x y → time_result (Some x) ≡ time_result (Some y)
alike x y (inl same) = ap (λ (z : ℤ). time_result (Some z)) same
alike x y (inr (inl late)) = too_late x late.0 ∙ sym (too_late y late.1)
alike x y (inr (inr early)) = before_epoch x early.0 ∙ sym (before_epoch y early.1)

-- ---- digits that are a date

meant : (d m : Bool) → (d && not m) ≡ false → d ≡ true → m ≡ true
meant true true h e = refl
meant true false h e = absurd cc
meant false m h e = absurd cc

pub date_has_eight : (text : List ℕ) → is_count text ≡ false → is_digits text ≡ true → length text ≡ 8
unfolding is_count is_meant_as_date
date_has_eight text other digits = eqb-true (length text) 8 ((and_parts (length text == 8) _ (meant (is_digits text) _ other digits)).0)

pub count_has_digits : (text : List ℕ) → is_count text ≡ true → list_all is_ascii_digit text ≡ true
unfolding is_count
count_has_digits text count = (and_parts (nat_lt 0 (length text)) (list_all is_ascii_digit text) ((and_parts (is_digits text) (not (is_meant_as_date text)) count).0)).1

-- ---- an offset from a second

plus_nothing : (z : ℤ) → z ≡ z +ℤ pos 0
plus_nothing z = omega (arith, ints)

pub moved_none : (from : ℤ) (offset : List ℕ) → length offset ≡ 0 → time_result (Some from) ≡ time_result (moved from offset)
unfolding offset_of
moved_none from [] e = ap (λ (z : ℤ). time_result (Some z)) (plus_nothing from)
moved_none from (b ∷ bs) e = absurd (omega arith)

abbrev signed : ℕ → ℕ → ℤ
signed sign n = cond (sign == 45) (neg_ℤ (pos n)) (pos n)

fails : (from : ℤ) (sign : ℕ) (found : Option ℕ) → None ≡ option_map (λ (n : ℕ). min n (2 ^ 100)) found
    → Err NotTime ≡ time_result (option_map (λ by. from +ℤ by) (option_map (signed sign) found))
fails from sign None e = refl
fails from sign (Some n) e = absurd cc

pub moved_fails : (from : ℤ) (offset spans : List ℕ) (sign : ℕ) → IsFirstAndRest offset sign spans → None ≡ option_map (λ n. min n (2 ^ 100)) (seconds_of spans)
    → Err NotTime ≡ time_result (moved from offset)
unfolding offset_of
moved_fails from offset spans sign (is, long) e = rw is (fails from sign (seconds_of spans) e)

before_alike : (from : ℤ) (s n : ℕ) → IsWithin (2 ^ 80) from → s ≡ min n (2 ^ 100) → (n < 2 ^ 100) ⊎ (2 ^ 100 ≤ n) → AreAlike (from -ℤ pos s) (from +ℤ neg_ℤ (pos n))
before_alike from s n (low, high) e (inl few) = inl (omega (arith, ints))
before_alike from s n (low, high) e (inr many) = inr (inr (omega (arith, ints), omega (arith, ints)))

after_alike : (from : ℤ) (s n : ℕ) → IsWithin (2 ^ 80) from → s ≡ min n (2 ^ 100) → (n < 2 ^ 100) ⊎ (2 ^ 100 ≤ n) → AreAlike (from +ℤ pos s) (from +ℤ pos n)
after_alike from s n (low, high) e (inl few) = inl (omega (arith, ints))
after_alike from s n (low, high) e (inr many) = inr (inl (omega (arith, ints), omega (arith, ints)))

goes_back : (from : ℤ) (s : ℕ) (sign : ℕ) (found : Option ℕ) → (sign == 45) ≡ true → IsWithin (2 ^ 80) from → Some s ≡ option_map (λ (n : ℕ). min n (2 ^ 100)) found
    → time_result (Some (from -ℤ pos s)) ≡ time_result (option_map (λ by. from +ℤ by) (option_map (signed sign) found))
goes_back from s sign None minus within e = absurd cc
goes_back from s sign (Some n) minus within e =
    let same : s ≡ min n (2 ^ 100) = cc in
    rw minus (alike (from -ℤ pos s) (from +ℤ neg_ℤ (pos n)) (before_alike from s n within same (cases_lt n (2 ^ 100))))

pub moved_back : (from : ℤ) (offset spans : List ℕ) (sign s : ℕ) → IsFirstAndRest offset sign spans → (sign == 45) ≡ true → IsWithin (2 ^ 80) from
    → Some s ≡ option_map (λ n. min n (2 ^ 100)) (seconds_of spans) → time_result (Some (from -ℤ pos s)) ≡ time_result (moved from offset)
unfolding offset_of
moved_back from offset spans sign s (is, long) minus within e = rw is (goes_back from s sign (seconds_of spans) minus within e)

goes_on : (from : ℤ) (s : ℕ) (sign : ℕ) (found : Option ℕ) → (sign == 45) ≡ false → IsWithin (2 ^ 80) from → Some s ≡ option_map (λ (n : ℕ). min n (2 ^ 100)) found
    → time_result (Some (from +ℤ pos s)) ≡ time_result (option_map (λ by. from +ℤ by) (option_map (signed sign) found))
goes_on from s sign None plus within e = absurd cc
goes_on from s sign (Some n) plus within e =
    let same : s ≡ min n (2 ^ 100) = cc in
    rw plus (alike (from +ℤ pos s) (from +ℤ pos n) (after_alike from s n within same (cases_lt n (2 ^ 100))))

pub moved_on : (from : ℤ) (offset spans : List ℕ) (sign s : ℕ) → IsFirstAndRest offset sign spans → (sign == 45) ≡ false → IsWithin (2 ^ 80) from
    → Some s ≡ option_map (λ n. min n (2 ^ 100)) (seconds_of spans) → time_result (Some (from +ℤ pos s)) ≡ time_result (moved from offset)
unfolding offset_of
moved_on from offset spans sign s (is, long) plus within e = rw is (goes_on from s sign (seconds_of spans) plus within e)

-- ---- an offset from a number that is far off

pub far_none : (n : ℕ) (offset : List ℕ) → 2 ^ 80 < n → length offset ≡ 0 → Err TooLate ≡ time_result (moved (pos n) offset)
far_none n offset far e = sym (too_late (pos n) (omega (arith, ints))) ∙ moved_none (pos n) offset e

stays_far : (n s : ℕ) (sign : ℕ) (found : Option ℕ) → 2 ^ 80 < n → (sign == 45) ≡ false → Some s ≡ option_map (λ (n : ℕ). min n (2 ^ 100)) found
    → Err TooLate ≡ time_result (option_map (λ by. pos n +ℤ by) (option_map (signed sign) found))
stays_far n s sign None far plus e = absurd cc
stays_far n s sign (Some m) far plus e = rw plus (sym (too_late (pos n +ℤ pos m) (omega (arith, ints))))

pub far_on : (n : ℕ) (offset spans : List ℕ) (sign s : ℕ) → 2 ^ 80 < n → IsFirstAndRest offset sign spans → (sign == 45) ≡ false
    → Some s ≡ option_map (λ n. min n (2 ^ 100)) (seconds_of spans) → Err TooLate ≡ time_result (moved (pos n) offset)
unfolding offset_of
far_on n offset spans sign s far (is, long) plus e = rw is (stays_far n s sign (seconds_of spans) far plus e)

kept_alike : (n m : ℕ) → (n + 2 ^ 100 < m) ⊎ (m ≤ n + 2 ^ 100) → (m + 2 ^ 100 < n) ⊎ (n ≤ m + 2 ^ 100) → AreAlike (pos (kept n m) -ℤ pos (2 ^ 100)) (pos n +ℤ neg_ℤ (pos m))
kept_alike n m (inl below) above = inr (inr (omega (arith, ints), omega (arith, ints)))
kept_alike n m (inr here) (inl above) = inr (inl (omega (arith, ints), omega (arith, ints)))
kept_alike n m (inr here) (inr there) = inl (omega (arith, ints))

comes_back : (n s m : ℕ) (sign : ℕ) (found : Option ℕ) → (sign == 45) ≡ true → ((total : ℕ) → found ≡ Some total → total ≡ m) → Some s ≡ option_map (λ (n : ℕ). min n (2 ^ 100)) found
    → time_result (Some (pos (kept n m) -ℤ pos (2 ^ 100))) ≡ time_result (option_map (λ by. pos n +ℤ by) (option_map (signed sign) found))
comes_back n s m sign None minus is e = absurd cc
comes_back n s m sign (Some total) minus is e =
    rw (minus, is total refl) (alike (pos (kept n m) -ℤ pos (2 ^ 100)) (pos n +ℤ neg_ℤ (pos m)) (kept_alike n m (cases_lt (n + 2 ^ 100) m) (cases_lt (m + 2 ^ 100) n)))

pub far_back : (n : ℕ) (offset spans : List ℕ) (sign s : ℕ) → IsFirstAndRest offset sign spans → (sign == 45) ≡ true
    → Some s ≡ option_map (λ n. min n (2 ^ 100)) (seconds_of spans)
    → time_result (Some (pos (kept n (fronts 0 (spans_of spans))) -ℤ pos (2 ^ 100))) ≡ time_result (moved (pos n) offset)
unfolding offset_of
far_back n offset spans sign s (is, long) minus e =
    rw is (comes_back n s (fronts 0 (spans_of spans)) sign (seconds_of spans) minus (λ total. seconds_are_fronts spans total) e)
