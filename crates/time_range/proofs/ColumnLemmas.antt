-- Numbers of any length, digit by digit.
use Rattle.std.proofs.Common.{cond, ◌≡◌, ℕ, zero, suc, ◌+◌, ◌-◌, ◌*◌, ◌^◌, ◌<◌, ◌≤◌, min, nat_lt, Bool, true, false, ◌⊎◌, inl, inr, List, [], ◌∷◌, length, take, drop, get_or, length-take, replicate, Option, Some, None, option_map, option_and_then, refl, sym, ap, subst, ◌∙◌, arith, ◌==◌, ◌||◌}
use Rattle.std.specs.Char.{is_ascii_digit}
use Rattle.std.specs.List.{list_all}
use Rattle.std.specs.Option.{unwrap_or}
use Rattle.std.specs.Str.Parse.{digits_value}
use Rattle.std.proofs.lemmas.Bool.{cases_lt, eqb-true, lt-ltb}
use Rattle.std.proofs.lemmas.Bool.Decides.{nat_tests}
use Rattle.std.proofs.lemmas.List.{take_all}
use Rattle.std.specs.List.{position_or_len}
use Rattle.std.proofs.lemmas.Nat.{mul-le}
use Rattle.fixed_num.proofs.DigitLemmas.{digit_byte_at, number_more}
use Rattle.time_range.specs.Columns.{column, digit_at, front, fronts, kept, span_column, unit_in}
use Rattle.time_range.specs.Spans.{digits_of, ends_span, first_length, in_front, is_no_digit, seconds_of, span_seconds, spans_of, total_of, unit_of}
use Rattle.time_range.specs.TimeUnits.{unit_seconds}
use Rattle.time_range.proofs.SpanLemmas.{digits_are_digits, first_is_cut}

-- ---- one digit more

front_at : (digits : List ℕ) (place : ℕ) → list_all is_ascii_digit digits ≡ true → (place < length digits) ⊎ (length digits ≤ place)
    → front place digits ≡ front (place + 1) digits * 10 + digit_at place digits
unfolding digit_at
front_at ds place digits (inl h) =
    let next : length ds - place ≡ length ds - (place + 1) + 1 = omega arith in
    let more = number_more ds (length ds - (place + 1)) digits (omega arith) in
    rw (lt-ltb place (length ds) h, next) more
front_at ds place digits (inr h) =
    let here : length ds - place ≡ 0 = omega arith in
    let next : length ds - (place + 1) ≡ 0 = omega arith in
    let over : nat_lt place (length ds) ≡ false = grind (arith, nat_tests) in
    rw (here, next, over) refl

pub front_more : (digits : List ℕ) (place : ℕ) → list_all is_ascii_digit digits ≡ true → front place digits ≡ front (place + 1) digits * 10 + digit_at place digits
front_more ds place digits = front_at ds place digits (cases_lt place (length ds))

spread : (u f d rest c : ℕ) → u * (f * 10 + d) + (rest * 10 + c) ≡ (u * f + rest) * 10 + (u * d + c)
spread u f d rest c = omega arith

pub fronts_more : (spans : List (List ℕ)) (place : ℕ) → fronts place spans ≡ fronts (place + 1) spans * 10 + column place spans
unfolding fronts column span_column
fronts_more [] place = refl
fronts_more (span ∷ spans) place =
    rw (front_more (digits_of span) place (digits_are_digits span), fronts_more spans place)
    (spread (unit_in span) (front (place + 1) (digits_of span)) (digit_at place (digits_of span)) (fronts (place + 1) spans) (column place spans))

kept_more_by : (x y d c : ℕ) → d ≤ 9 → c ≤ 2 ^ 95 → min (kept x y * 10 + d - (c + 9 * 2 ^ 100)) (2 ^ 101) ≡ kept (x * 10 + d) (y * 10 + c)
kept_more_by x y d c few small = omega arith

pub kept_more : (digits : List ℕ) (spans : List (List ℕ)) (place : ℕ) → list_all is_ascii_digit digits ≡ true → digit_at place digits ≤ 9 → column place spans ≤ 2 ^ 95
    → min (kept (front (place + 1) digits) (fronts (place + 1) spans) * 10 + digit_at place digits - (column place spans + 9 * 2 ^ 100)) (2 ^ 101) ≡ kept (front place digits) (fronts place spans)
kept_more ds spans place digits few small =
    kept_more_by (front (place + 1) ds) (fronts (place + 1) spans) (digit_at place ds) (column place spans) few small
    ∙ rw (front_more ds place digits, fronts_more spans place) refl

-- ---- in front of all digits

pub front_none : (digits : List ℕ) (place : ℕ) → length digits ≤ place → front place digits ≡ 0
front_none ds place h =
    let none : length ds - place ≡ 0 = omega arith in
    rw none refl

pub front_all : (digits : List ℕ) → front 0 digits ≡ digits_value 10 digits
front_all ds = ap (digits_value 10) (take_all (length ds - 0) ds (omega arith))

abbrev AreWithin : ℕ → List (List ℕ) → Type 0
AreWithin n [] = Unit {0}
AreWithin n (span ∷ spans) = (length span ≤ n) × AreWithin n spans

within_more : (n : ℕ) (spans : List (List ℕ)) → AreWithin n spans → AreWithin (n + 1) spans
within_more n [] within = tt
within_more n (span ∷ spans) (own, others) = (omega arith, within_more n spans others)

front_within : (b n : ℕ) (spans : List (List ℕ)) → AreWithin n spans → AreWithin (n + 1) (in_front b spans)
front_within b n [] within = (omega arith, tt)
front_within b n (span ∷ spans) (own, others) = (omega arith, within_more n spans others)

after : (n : ℕ) → n + 1 ≡ suc n
after n = omega arith

spans_within : (text : List ℕ) → AreWithin (length text) (spans_of text)
unfolding spans_of
spans_within [] = tt
spans_within (b ∷ bs) = by (ends_span b bs) (spans_within bs)
  where
    by : (t : Bool) → AreWithin (length bs) (spans_of bs) → AreWithin (suc (length bs)) (cond t ((b ∷ []) ∷ spans_of bs) (in_front b (spans_of bs)))
    by true within = subst (λ (n : ℕ). AreWithin n ((b ∷ []) ∷ spans_of bs)) (after (length bs)) (omega arith, within_more (length bs) (spans_of bs) within)
    by false within = subst (λ (n : ℕ). AreWithin n (in_front b (spans_of bs))) (after (length bs)) (front_within b (length bs) (spans_of bs) within)

fronts_none : (spans : List (List ℕ)) (place n : ℕ) → AreWithin n spans → n ≤ place → fronts place spans ≡ 0
unfolding fronts
fronts_none [] place n within h = refl
fronts_none (span ∷ spans) place n (own, others) h =
    let few : length (digits_of span) ≤ place = omega (arith, length-take (position_or_len is_no_digit span) span) in
    rw (front_none (digits_of span) place few, fronts_none spans place n others h) (omega arith)

pub kept_start : (digits text : List ℕ) (place : ℕ) → length digits ≤ place → length text ≤ place → 2 ^ 100 ≡ kept (front place digits) (fronts place (spans_of text))
kept_start ds text place h k = rw (front_none ds place h, fronts_none (spans_of text) place (length text) (spans_within text) k) (omega arith)

pub kept_step : (digits : List ℕ) (spans : List (List ℕ)) (place : ℕ) → 0 < place → list_all is_ascii_digit digits ≡ true → digit_at (place - 1) digits ≤ 9 → column (place - 1) spans ≤ 2 ^ 95
    → min (kept (front place digits) (fronts place spans) * 10 + digit_at (place - 1) digits - (column (place - 1) spans + 9 * 2 ^ 100)) (2 ^ 101) ≡ kept (front (place - 1) digits) (fronts (place - 1) spans)
kept_step ds spans place some digits few small =
    let next : place - 1 + 1 ≡ place = omega arith in
    rw next at (kept_more ds spans (place - 1) digits few small)

-- what a step of the reading makes of what is kept
pub kept_next : (digits : List ℕ) (spans : List (List ℕ)) (place k d c : ℕ) → 0 < place → list_all is_ascii_digit digits ≡ true
    → k ≡ kept (front place digits) (fronts place spans) → d ≡ digit_at (place - 1) digits → d ≤ 9 → c ≡ column (place - 1) spans → c ≤ 2 ^ 95
    → min (k * 10 + d - (c + 9 * 2 ^ 100)) (2 ^ 101) ≡ kept (front (place - 1) digits) (fronts (place - 1) spans)
kept_next ds spans place k d c some digits ke de few ce small =
    rw (ke, de, ce) (kept_step ds spans place some digits (omega (arith, de, few)) (omega (arith, ce, small)))

-- ---- a column of spans

pub column_more : (place : ℕ) (text : List ℕ) → 0 < length text
    → column place (spans_of text) ≡ span_column place (take (first_length text) text) + column place (spans_of (drop (first_length text) text))
unfolding column
column_more place text h = ap (column place) (first_is_cut text h)

pub column_none : (place : ℕ) (text : List ℕ) → length text ≡ 0 → column place (spans_of text) ≡ 0
unfolding column spans_of
column_none place [] e = refl
column_none place (b ∷ bs) e = absurd (omega arith)

digit_none : (digits : List ℕ) (place : ℕ) → length digits ≤ place → digit_at place digits ≡ 0
unfolding digit_at
digit_none ds place h =
    let over : nat_lt place (length ds) ≡ false = grind (arith, nat_tests) in
    rw over refl

-- a span whose digits are all behind a place
pub none_there : (place : ℕ) (span : List ℕ) → length (digits_of span) ≤ place → span_column place span ≡ 0
unfolding span_column
none_there place span h = rw (digit_none (digits_of span) place h) (omega arith)

-- sums to which the digits of a span that has any there were put
pub all_added : (old now digits : List ℕ) (unit from end : ℕ) → min (length digits - from) (length old) ≤ end
    → ((j : ℕ) → j < end → get_or now j 0 ≡ get_or old j 0 + unit * digit_at (from + j) digits)
    → ((j : ℕ) → end ≤ j → get_or now j 0 ≡ get_or old j 0)
    → (k : ℕ) → k < length old → get_or now k 0 ≡ get_or old k 0 + unit * digit_at (from + k) digits
all_added old now digits unit from end far done left k within =
    elim (cases_lt k end) [
      | inl lt ↦ done k lt
      | inr le ↦
          let none : digit_at (from + k) digits ≡ 0 = digit_none digits (from + k) (omega arith) in
          left k le ∙ rw none (omega arith)
    ]

-- ---- how much a column has at most

digit_within : (digits : List ℕ) (place : ℕ) → list_all is_ascii_digit digits ≡ true → (place < length digits) ⊎ (length digits ≤ place) → digit_at place digits ≤ 9
unfolding digit_at
digit_within ds place digits (inl h) =
    let range = digit_byte_at ds (length ds - (place + 1)) digits (omega arith) in
    rw (lt-ltb place (length ds) h) (omega (arith, range.1))
digit_within ds place digits (inr h) = omega (arith, digit_none ds place h)

unit_by : (s m h d w n y : Bool) → unwrap_or (cond s (Some 1) (cond m (Some 60) (cond h (Some 3600) (cond d (Some 86400) (cond w (Some 604800) (cond n (Some 2592000) (cond y (Some 31536000) None))))))) 0 ≤ 31536000
unit_by true m h d w n y = omega arith
unit_by false true h d w n y = omega arith
unit_by false false true d w n y = omega arith
unit_by false false false true w n y = omega arith
unit_by false false false false true n y = omega arith
unit_by false false false false false true y = omega arith
unit_by false false false false false false true = omega arith
unit_by false false false false false false false = omega arith

unit_most : (span : List ℕ) → unit_in span ≤ 31536000
unfolding unit_seconds
unit_most span = unit_by _ _ _ _ _ _ _

span_column_most : (place : ℕ) (span : List ℕ) → span_column place span ≤ 283824000
unfolding span_column
span_column_most place span =
    omega (arith, mul-le (unit_in span) (digit_at place (digits_of span)) 31536000 9 (unit_most span) (digit_within (digits_of span) place (digits_are_digits span) (cases_lt place (length (digits_of span)))))

columns_most : (place : ℕ) (spans : List (List ℕ)) → column place spans ≤ 283824000 * length spans
unfolding column
columns_most place [] = omega arith
columns_most place (span ∷ spans) = omega (arith, span_column_most place span, columns_most place spans)

front_count : (b : ℕ) (spans : List (List ℕ)) → length (in_front b spans) ≤ length spans + 1
front_count b [] = omega arith
front_count b (span ∷ spans) = omega arith

span_count : (text : List ℕ) → length (spans_of text) ≤ length text
unfolding spans_of
span_count [] = omega arith
span_count (b ∷ bs) = by (ends_span b bs) (span_count bs)
  where
    by : (t : Bool) → length (spans_of bs) ≤ length bs → length (cond t ((b ∷ []) ∷ spans_of bs) (in_front b (spans_of bs))) ≤ length (b ∷ bs)
    by true few = omega (arith, few)
    by false few = omega (arith, few, front_count b (spans_of bs))

pub column_most : (place : ℕ) (text : List ℕ) → column place (spans_of text) ≤ 283824000 * length text
column_most place text = omega (arith, columns_most place (spans_of text), span_count text)

pub none_at : (n k : ℕ) → get_or (replicate {A = ℕ} n 0) k 0 ≡ 0
none_at zero k = refl
none_at (suc n) zero = refl
none_at (suc n) (suc k) = none_at n k

-- ---- a difference that is out of reach stays there

is_small : (place : ℕ) (text : List ℕ) → length text ≤ 2 ^ 64 → column place (spans_of text) ≤ 2 ^ 95
is_small place text long = omega (arith, column_most place text, long)

next_kept_is : (digits text : List ℕ) (place k : ℕ) → list_all is_ascii_digit digits ≡ true → length text ≤ 2 ^ 64 → kept (front (suc place) digits) (fronts (suc place) (spans_of text)) ≡ k
    → kept (front place digits) (fronts place (spans_of text)) ≡ min (k * 10 + digit_at place digits - (column place (spans_of text) + 9 * 2 ^ 100)) (2 ^ 101)
next_kept_is ds text place k digits long e =
    let few = digit_within ds place digits (cases_lt place (length ds)) in
    let next : kept (front (place + 1) ds) (fronts (place + 1) (spans_of text)) ≡ k = rw (after place) e in
    sym (kept_more ds (spans_of text) place digits few (is_small place text long)) ∙ rw next refl

stays_below : (digits text : List ℕ) (place : ℕ) → list_all is_ascii_digit digits ≡ true → length text ≤ 2 ^ 64 → kept (front place digits) (fronts place (spans_of text)) ≡ 0
    → kept (front 0 digits) (fronts 0 (spans_of text)) ≡ 0
stays_below ds text zero digits long e = e
stays_below ds text (suc place) digits long e =
    let few = digit_within ds place digits (cases_lt place (length ds)) in
    stays_below ds text place digits long (next_kept_is ds text place 0 digits long e ∙ omega (arith, few))

stays_above : (digits text : List ℕ) (place : ℕ) → list_all is_ascii_digit digits ≡ true → length text ≤ 2 ^ 64 → kept (front place digits) (fronts place (spans_of text)) ≡ 2 ^ 101
    → kept (front 0 digits) (fronts 0 (spans_of text)) ≡ 2 ^ 101
stays_above ds text zero digits long e = e
stays_above ds text (suc place) digits long e =
    stays_above ds text place digits long (next_kept_is ds text place (2 ^ 101) digits long e ∙ omega (arith, is_small place text long))

pub kept_settled : (digits text : List ℕ) (place k : ℕ) → list_all is_ascii_digit digits ≡ true → length text ≤ 2 ^ 64 → (k == 0 || k == 2 ^ 101) ≡ true
    → k ≡ kept (front place digits) (fronts place (spans_of text)) → k ≡ kept (digits_value 10 digits) (fronts 0 (spans_of text))
kept_settled ds text place k digits long out is = rw (front_all ds) at (by (k == 0) (k == 2 ^ 101) out refl refl)
  where
    by : (low high : Bool) → (low || high) ≡ true → (k == 0) ≡ low → (k == 2 ^ 101) ≡ high → k ≡ kept (front 0 ds) (fronts 0 (spans_of text))
    by true high e below above =
        let none : k ≡ 0 = eqb-true k 0 below in
        none ∙ sym (stays_below ds text place digits long (sym is ∙ none))
    by false true e below above =
        let most : k ≡ 2 ^ 101 = eqb-true k (2 ^ 101) above in
        most ∙ sym (stays_above ds text place digits long (sym is ∙ most))
    by false false e below above = absurd cc

-- ---- the seconds of spans, from all their digits

found_seconds : (none : Bool) (number a : ℕ) (unit : Option ℕ) → cond none None (option_map (λ u. number * u) unit) ≡ Some a → a ≡ unwrap_or unit 0 * number
found_seconds true number a unit e = absurd cc
found_seconds false number a None e = absurd cc
found_seconds false number a (Some u) e =
    let same : a ≡ number * u = cc in
    omega (arith, same)

span_is_front : (span : List ℕ) (a : ℕ) → span_seconds span ≡ Some a → a ≡ unit_in span * front 0 (digits_of span)
unfolding span_seconds
span_is_front span a e =
    rw (front_all (digits_of span)) (found_seconds (length (digits_of span) == 0) (digits_value 10 (digits_of span)) a (unit_seconds (unit_of span)) e)

summed : (s : ℕ) (own others : Option ℕ) (f g : ℕ) → ((a : ℕ) → own ≡ Some a → a ≡ f) → ((m : ℕ) → others ≡ Some m → m ≡ g)
    → option_and_then (λ seconds. option_map (λ more. seconds + more) others) own ≡ Some s → s ≡ f + g
summed s None others f g first rest e = absurd cc
summed s (Some a) None f g first rest e = absurd cc
summed s (Some a) (Some m) f g first rest e =
    let sum : s ≡ a + m = cc in
    omega (arith, sum, first a refl, rest m refl)

total_is_fronts : (spans : List (List ℕ)) (s : ℕ) → total_of spans ≡ Some s → s ≡ fronts 0 spans
unfolding total_of fronts
total_is_fronts [] s e =
    let none : s ≡ 0 = cc in
    none
total_is_fronts (span ∷ spans) s e =
    summed s (span_seconds span) (total_of spans) (unit_in span * front 0 (digits_of span)) (fronts 0 spans) (span_is_front span) (total_is_fronts spans) e

found_total : (none : Bool) (s : ℕ) (total : Option ℕ) → cond none None total ≡ Some s → total ≡ Some s
found_total true s total e = absurd cc
found_total false s total e = e

pub seconds_are_fronts : (text : List ℕ) (s : ℕ) → seconds_of text ≡ Some s → s ≡ fronts 0 (spans_of text)
unfolding seconds_of
seconds_are_fronts text s e = total_is_fronts (spans_of text) s (found_total (length text == 0) s (total_of (spans_of text)) e)
