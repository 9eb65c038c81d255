-- How a text is cut into its spans, and what their seconds are where numbers are cut at a bound.
use Rattle.std.proofs.Common.{◌≡◌, ℕ, zero, suc, ◌+◌, ◌*◌, ◌^◌, ◌<◌, ◌≤◌, min, Bool, true, false, ◌&&◌, ◌==◌, ◌⊎◌, inl, inr, List, [], ◌∷◌, length, take, drop, get_or, Option, Some, None, option_map, option_and_then, refl, sym, ap, ◌∙◌, mul-suc, arith}
use Rattle.std.specs.Char.{is_ascii_digit}
use Rattle.std.specs.List.{list_all}
use Rattle.std.specs.Str.Parse.{digits_value}
use Rattle.std.proofs.lemmas.List.{drop_more, drop_all}
use Rattle.std.proofs.lemmas.Bool.{cases_lt}
use Rattle.std.proofs.lemmas.Bool.Decides.{nat_tests}
use Rattle.time_range.specs.TimeUnits.{unit_seconds}
use Rattle.time_range.specs.Spans.{digits_of, ends_span, first_length, is_no_digit, span_seconds, spans_of, total_of, unit_of}

plus_one : (n : ℕ) → n + 1 ≡ suc n
plus_one n = omega arith

one_plus : (n : ℕ) → 1 + n ≡ suc n
one_plus n = omega arith

-- ---- the digits at the front of a span

one_more : (b : ℕ) (bs : List ℕ) (t : Bool) → is_ascii_digit b ≡ t → list_all is_ascii_digit (digits_of bs) ≡ true → list_all is_ascii_digit (digits_of (b ∷ bs)) ≡ true
one_more b bs true e more = rw (e, one_plus) (rw e more)
one_more b bs false e more = rw e refl

pub digits_are_digits : (text : List ℕ) → list_all is_ascii_digit (digits_of text) ≡ true
digits_are_digits [] = refl
digits_are_digits (b ∷ bs) = one_more b bs (is_ascii_digit b) refl (digits_are_digits bs)

-- ---- where the first span ends

two_left : (text : List ℕ) (at : ℕ) → at + 1 < length text → drop at text ≡ get_or text at 0 ∷ get_or text (at + 1) 0 ∷ drop (at + 1 + 1) text
two_left text at h = drop_more text at 0 (omega arith) ∙ ap (λ (rest : List ℕ). get_or text at 0 ∷ rest) (drop_more text (at + 1) 0 h)

pub ends_here : (text : List ℕ) (at : ℕ) → at + 1 < length text → (is_no_digit (get_or text at 0) && is_ascii_digit (get_or text (at + 1) 0)) ≡ true → first_length (drop at text) ≡ 1
unfolding first_length
ends_here text at h seam = ap first_length (two_left text at h) ∙ rw seam refl

goes_on_at : (a b : ℕ) (rest : List ℕ) → (is_no_digit a && is_ascii_digit b) ≡ false → first_length (a ∷ b ∷ rest) ≡ first_length (b ∷ rest) + 1
unfolding first_length
goes_on_at a b rest seam = rw seam refl

pub goes_on : (text : List ℕ) (at : ℕ) → at + 1 < length text → (is_no_digit (get_or text at 0) && is_ascii_digit (get_or text (at + 1) 0)) ≡ false → first_length (drop at text) ≡ first_length (drop (at + 1) text) + 1
goes_on text at h seam =
    ap first_length (two_left text at h)
    ∙ (goes_on_at (get_or text at 0) (get_or text (at + 1) 0) (drop (at + 1 + 1) text) seam
    ∙ ap (λ (rest : List ℕ). first_length rest + 1) (sym (drop_more text (at + 1) 0 h)))

one_left : (rest : List ℕ) → length rest ≡ 1 → first_length rest ≡ 1
unfolding first_length
one_left [] e = absurd (omega arith)
one_left (b ∷ []) e = refl
one_left (b ∷ c ∷ rest) e = absurd (omega arith)

pub ends_last : (text : List ℕ) (at : ℕ) → at + 1 ≡ length text → first_length (drop at text) ≡ 1
ends_last text at e = one_left (drop at text) (ap length (drop_more text at 0 (omega arith)) ∙ none_left text at e)
  where
    none_left : (text : List ℕ) (at : ℕ) → at + 1 ≡ length text → length (get_or text at 0 ∷ drop (at + 1) text) ≡ 1
    none_left text at e = rw (drop_all (at + 1) text (omega arith)) refl

-- ---- the first span, and the others

-- what cutting off the first span leaves
abbrev IsCut : List ℕ → Type 0
IsCut text = spans_of text ≡ take (first_length text) text ∷ spans_of (drop (first_length text) text)

cut_front : (b c : ℕ) (cs : List ℕ) (t : Bool) → ends_span b (c ∷ cs) ≡ t → IsCut (c ∷ cs) → IsCut (b ∷ c ∷ cs)
unfolding spans_of first_length
cut_front b c cs true e more = rw e refl
cut_front b c cs false e more = rw (e, plus_one, more) refl

pub first_is_cut : (text : List ℕ) → 0 < length text → IsCut text
unfolding spans_of first_length
first_is_cut [] h = absurd (omega arith)
first_is_cut (b ∷ []) h = refl
first_is_cut (b ∷ c ∷ cs) h = cut_front b c cs (ends_span b (c ∷ cs)) refl (first_is_cut (c ∷ cs) (omega arith))

-- ---- seconds that are cut at a bound

cut_product : (number unit : ℕ) → min (min number (2 ^ 100) * unit) (2 ^ 100) ≡ min (number * unit) (2 ^ 100)
cut_product number zero = omega arith
cut_product number (suc unit) = by (cases_lt number (2 ^ 100))
  where
    by : (number < 2 ^ 100) ⊎ (2 ^ 100 ≤ number) → min (min number (2 ^ 100) * suc unit) (2 ^ 100) ≡ min (number * suc unit) (2 ^ 100)
    by (inl few) =
        let same : min number (2 ^ 100) ≡ number = omega arith in
        rw same refl
    by (inr many) =
        let most : min number (2 ^ 100) ≡ 2 ^ 100 = omega arith in
        rw most (omega (arith, mul-suc number unit, mul-suc (2 ^ 100) unit))

some_seconds : (span : List ℕ) (unit : ℕ) (found : Option ℕ) → 0 < length (digits_of span) → Some unit ≡ found → found ≡ unit_seconds (unit_of span)
    → option_map (λ n. min n (2 ^ 100)) (span_seconds span) ≡ Some (min (digits_value 10 (digits_of span) * unit) (2 ^ 100))
unfolding span_seconds
some_seconds span unit found some e is =
    let other : (length (digits_of span) == 0) ≡ false = grind (arith, nat_tests) in
    rw (other, sym is, sym e) refl

-- the seconds of a span, cut, from those of its digits, cut
pub span_is : (span : List ℕ) (unit : ℕ) → 0 < length (digits_of span) → Some unit ≡ unit_seconds (unit_of span)
    → Some (min (min (digits_value 10 (digits_of span)) (2 ^ 100) * unit) (2 ^ 100)) ≡ option_map (λ n. min n (2 ^ 100)) (span_seconds span)
span_is span unit some e =
    ap (λ (n : ℕ). Some n) (cut_product (digits_value 10 (digits_of span)) unit) ∙ sym (some_seconds span unit (unit_seconds (unit_of span)) some e refl)

-- the seconds of all spans, with those of the earlier ones
abbrev pub total_with : ℕ → List (List ℕ) → Option ℕ
total_with total spans = option_map (λ more. min (total + more) (2 ^ 100)) (total_of spans)

cut_again : (total s m : ℕ) → min (total + (s + m)) (2 ^ 100) ≡ min (min (total + min s (2 ^ 100)) (2 ^ 100) + m) (2 ^ 100)
cut_again total s m = omega arith

added_to : (total s : ℕ) (own others : Option ℕ) → Some s ≡ option_map (λ n. min n (2 ^ 100)) own
    → option_map (λ more. min (total + more) (2 ^ 100)) (option_and_then (λ seconds. option_map (λ more. seconds + more) others) own)
    ≡ option_map (λ more. min (min (total + s) (2 ^ 100) + more) (2 ^ 100)) others
added_to total s None others e = absurd cc
added_to total s (Some n) None e = refl
added_to total s (Some n) (Some m) e =
    let same : s ≡ min n (2 ^ 100) = cc in
    rw same (ap (λ (n : ℕ). Some n) (cut_again total n m))

pub total_more : (text : List ℕ) (total s : ℕ) → 0 < length text → Some s ≡ option_map (λ n. min n (2 ^ 100)) (span_seconds (take (first_length text) text))
    → total_with total (spans_of text) ≡ total_with (min (total + s) (2 ^ 100)) (spans_of (drop (first_length text) text))
unfolding total_of
total_more text total s h e =
    ap (total_with total) (first_is_cut text h)
    ∙ added_to total s (span_seconds (take (first_length text) text)) (total_of (spans_of (drop (first_length text) text))) e

fails_with : (total : ℕ) (own others : Option ℕ) → None ≡ option_map (λ (n : ℕ). min n (2 ^ 100)) own
    → option_map (λ more. min (total + more) (2 ^ 100)) (option_and_then (λ seconds. option_map (λ more. seconds + more) others) own) ≡ None
fails_with total None others e = refl
fails_with total (Some n) others e = absurd cc

pub total_fails : (text : List ℕ) (total : ℕ) → 0 < length text → None ≡ option_map (λ n. min n (2 ^ 100)) (span_seconds (take (first_length text) text))
    → total_with total (spans_of text) ≡ None
unfolding total_of
total_fails text total h e =
    ap (total_with total) (first_is_cut text h)
    ∙ fails_with total (span_seconds (take (first_length text) text)) (total_of (spans_of (drop (first_length text) text))) e

pub total_end : (text : List ℕ) (total : ℕ) → length text ≡ 0 → total ≤ 2 ^ 100 → total_with total (spans_of text) ≡ Some total
unfolding spans_of total_of
total_end [] total e h = ap (λ (n : ℕ). Some n) (omega arith)
total_end (b ∷ bs) total e h = absurd (omega arith)

none_before : (o : Option ℕ) → option_map (λ more. min (0 + more) (2 ^ 100)) o ≡ option_map (λ n. min n (2 ^ 100)) o
none_before None = refl
none_before (Some n) = ap (λ (n : ℕ). Some n) (omega arith)

pub total_from_none : (spans : List (List ℕ)) → total_with 0 spans ≡ option_map (λ n. min n (2 ^ 100)) (total_of spans)
total_from_none spans = none_before (total_of spans)
