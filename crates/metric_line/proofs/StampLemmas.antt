-- A time by its parts before and behind the point.
use Rattle.std.proofs.Common.{◌≡◌, ℕ, ◌<◌, ◌-◌, Bool, true, false, codes, lt-ltb, ltb-true, ◌&&◌, ◌||◌, not, List, length, take, drop, refl, sym, ap, ◌∙◌, arith, eqb, ltb, Some, None, length-drop}
use Rattle.std.specs.List.{list_all, list_any, position_or_len}
use Rattle.std.specs.Char.{is_ascii_digit}
use Rattle.std.proofs.lemmas.Bool.Decides.{nat_tests}
use Rattle.std.proofs.lemmas.List.{drop-drop}
use Rattle.fixed_num.specs.Decimal.{is_point}
use Rattle.std.proofs.lemmas.Bool.{and_parts, false≢true}
use Rattle.std.specs.Str.Parse.{digits_value}
use Rattle.fixed_num.specs.Decimal.{is_numeral_up_to, whole_of}
use Rattle.fixed_num.specs.Whole.{whole_number}
use Rattle.fixed_num.proofs.GrammarLemmas.{before_first_none, digits_none, list_any_is}
use Rattle.fixed_num.proofs.DigitLemmas.{whole_number_is}
use Rattle.metric_line.proofs.LawLemmas.{not_now}
use Rattle.metric_line.specs.Stamp.{is_cut_time, is_digits, is_now, is_seconds, moment_result, stamp_of, whole_digits}

nothing_behind : (n at : ℕ) → eqb (n - at) 0 ≡ not (ltb at n)
nothing_behind n at = grind (arith, nat_tests)

no_point : (text : List ℕ) → eqb (length (drop (position_or_len is_point text) text)) 0 ≡ not (list_any is_point text)
no_point text = rw (length-drop, list_any_is) (nothing_behind (length text) (position_or_len is_point text))

pub is_seconds_cut : (text : List ℕ) → is_cut_time (take (position_or_len is_point text) text) (drop (position_or_len is_point text) text) ≡ is_seconds text
unfolding is_seconds
is_seconds_cut text =
    let at = position_or_len is_point text in
    ap (λ (t : Bool). is_digits (take at text) && (t || is_digits (drop 1 (drop at text)))) (no_point text)
    ∙ ap (λ (behind : List ℕ). is_digits (take at text) && (not (list_any is_point text) || is_digits behind)) (drop-drop 1 at text)

pub whole_digits_some : (text : List ℕ) → is_cut_time (take (position_or_len is_point text) text) (drop (position_or_len is_point text) text) ≡ true → whole_digits text ≡ Some (take (position_or_len is_point text) text)
unfolding whole_digits
whole_digits_some text fits = rw (sym (is_seconds_cut text) ∙ fits) refl

pub whole_digits_none : (text : List ℕ) → is_cut_time (take (position_or_len is_point text) text) (drop (position_or_len is_point text) text) ≡ false → whole_digits text ≡ None
unfolding whole_digits
whole_digits_none text no_time = rw (sym (is_seconds_cut text) ∙ no_time) refl

-- the digits of a time are digits
pub cut_digits : (whole behind : List ℕ) → is_cut_time whole behind ≡ true → list_all is_ascii_digit whole ≡ true
cut_digits whole behind fits = grind arith

-- ---- a time that is digits alone

digits_no_point : (text : List ℕ) → list_all is_ascii_digit text ≡ true → list_any is_point text ≡ false
digits_no_point text digits = digits_none is_point (λ b h. grind (arith, nat_tests)) text digits

some_same : (a b : List ℕ) → Some a ≡ Some b → a ≡ b
some_same a b e = cc

minus_one : (text : List ℕ) → list_all is_ascii_digit text ≡ true → text ≡ codes "-1" → ⊥
minus_one text digits e = false≢true (ap (list_all is_ascii_digit) (sym e) ∙ digits)

digits_not_now : (text : List ℕ) → list_all is_ascii_digit text ≡ true → is_now text ≡ false
digits_not_now text digits = not_now text (λ same. minus_one text digits (some_same text (codes "-1") same))

whole_digits_all : (text : List ℕ) → 0 < length text → list_all is_ascii_digit text ≡ true → whole_digits text ≡ Some text
unfolding whole_digits is_seconds
whole_digits_all text some digits =
    let none : list_any is_point text ≡ false = digits_no_point text digits in
    let all : whole_of text ≡ text = before_first_none is_point text none in
    rw (all, none, digits, lt-ltb 0 (length text) some) refl

stamp_of_digits : (text : List ℕ) (now : ℕ) → is_numeral_up_to 19 text ≡ true → stamp_of text now ≡ moment_result (digits_value 10 text)
unfolding stamp_of
stamp_of_digits text now numeral =
    let parts = and_parts _ _ numeral in
    let digits = (and_parts _ _ parts.1).1 in
    rw (digits_not_now text digits, whole_digits_all text (ltb-true 0 (length text) parts.0) digits) refl

-- a number of 1 to 19 digits is a time as it stands
pub stamp_of_whole : (text : List ℕ) (now seconds : ℕ) → Some seconds ≡ whole_number text → moment_result seconds ≡ stamp_of text now
stamp_of_whole text now seconds e =
    let number = whole_number_is text seconds e in
    ap moment_result number.1 ∙ sym (stamp_of_digits text now number.0)
