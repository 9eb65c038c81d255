-- How far a stretch reaches: the texts of paths, numbers, flags and names are whole stretches.
use Rattle.std.proofs.Common.{◌≡◌, ℕ, ◌==◌, Bool, true, false, cond, not, ◌&&◌, ◌||◌, List, [], ◌∷◌, ◌++◌, take, drop, refl, sym, ap, ap₂, ◌∙◌, subst, arith}
use Rattle.std.proofs.Math.Seq.{drop-append_seam, take-append_seam}
use Rattle.std.proofs.lemmas.Bool.{and_parts, or_parts}
use Rattle.std.proofs.lemmas.Bool.Decides.{nat_tests}
use Rattle.std.specs.Char.{is_ascii_digit}
use Rattle.std.specs.List.{list_all, list_any}
use Rattle.std.specs.Str.Parse.{without_leading_sign}
use Rattle.fixed_num.specs.Decimal.{exponent_of, fraction_of, has_exponent, is_exponent, is_exponent_mark, is_mantissa, is_number, is_point, mantissa_of, whole_of}
use Rattle.fixed_num.proofs.GrammarLemmas.{before_first_none, digits_none, list_any_parts}
use Rattle.path_glob.specs.Stretch.{Fills, Stops, is_held}
use Rattle.path_glob.proofs.StretchLemmas.{Goes, fills_more, passes, same_byte, stops_len}
use Rattle.target_parse.specs.Bytes.{behind_stretch, is_letter, is_name, is_word_byte, stretch_of}

-- ---- stretches

pub stretch_is : (text rest : List ℕ) → Fills false text → Stops rest → stretch_of (text ++ rest) ≡ text
stretch_is text rest fills stops = ap (λ (n : ℕ). take n (text ++ rest)) (fills rest stops) ∙ take-append_seam text rest

pub behind_is_rest : (text rest : List ℕ) → Fills false text → Stops rest → behind_stretch (text ++ rest) ≡ rest
behind_is_rest text rest fills stops = ap (λ (n : ℕ). drop n (text ++ rest)) (fills rest stops) ∙ drop-append_seam text rest

-- ---- names and numbers

not_true : (x : Bool) → not x ≡ true → x ≡ false
not_true true e = absurd cc
not_true false e = refl

not_false : (x : Bool) → not x ≡ false → x ≡ true
not_false true e = refl
not_false false e = absurd cc

-- a byte that stands in a stretch and opens no braces
abbrev is_plain : ℕ → Bool
is_plain b = is_held false b && not (b == 123)

plain_goes : (b : ℕ) → is_plain b ≡ true → Goes false b false
plain_goes b e =
    let parts = and_parts (is_held false b) (not (b == 123)) e in
    (parts.0, let shut : (b == 123) ≡ false = not_true (b == 123) parts.1 in ap (λ (t : Bool). t || (false && not (b == 125))) shut)

all_fill : (text : List ℕ) → list_all is_plain text ≡ true → Fills false text
all_fill [] e = λ rest stops. stops_len rest stops
all_fill (b ∷ text) e =
    let parts = and_parts (is_plain b) (list_all is_plain text) e in
    let goes = plain_goes b parts.0 in
    fills_more false false b text goes.0 goes.1 (all_fill text parts.1)

word_is_plain : (b : ℕ) → is_word_byte b ≡ true → is_plain b ≡ true
word_is_plain b e = passes is_word_byte is_plain b (grind (arith, nat_tests)) refl e

words_are_plain : (text : List ℕ) → list_all is_word_byte text ≡ true → list_all is_plain text ≡ true
words_are_plain [] e = refl
words_are_plain (b ∷ text) e =
    let parts = and_parts (is_word_byte b) (list_all is_word_byte text) e in
    ap₂ (λ (x : Bool) (y : Bool). x && y) (word_is_plain b parts.0) (words_are_plain text parts.1)

pub name_fills : (text : List ℕ) → is_name text ≡ true → Fills false text
name_fills [] e = absurd cc
name_fills (b ∷ text) e =
    let parts = and_parts (is_letter b) (list_all is_word_byte text) e in
    all_fill (b ∷ text) (words_are_plain (b ∷ text) (ap₂ (λ (x : Bool) (y : Bool). (x || (is_ascii_digit b || b == 95)) && y) parts.0 parts.1))

-- a byte that is none of a number's
abbrev is_foreign : ℕ → Bool
is_foreign b = not (is_plain b)

digit_known : (b : ℕ) → is_ascii_digit b ≡ true → is_foreign b ≡ false
digit_known b e = ap not (passes is_ascii_digit is_plain b (grind (arith, nat_tests)) refl e)

point_known : (b : ℕ) → is_point b ≡ true → is_foreign b ≡ false
point_known b e = subst (λ x. is_foreign x ≡ false) (sym (same_byte b 46 e)) refl

mark_known : (b : ℕ) → is_exponent_mark b ≡ true → is_foreign b ≡ false
mark_known b e = ap not (passes is_exponent_mark is_plain b (grind (arith, nat_tests)) refl e)

digits_known : (text : List ℕ) → list_all is_ascii_digit text ≡ true → list_any is_foreign text ≡ false
digits_known text e = digits_none is_foreign digit_known text e

mantissa_known : (text : List ℕ) → is_mantissa text ≡ true → list_any is_foreign text ≡ false
mantissa_known text e =
    let whole = and_parts (list_all is_ascii_digit (whole_of text)) _ e in
    let fraction = and_parts (list_all is_ascii_digit (fraction_of text)) _ whole.1 in
    list_any_parts is_point is_foreign text point_known (digits_known (whole_of text) whole.0) (digits_known (fraction_of text) fraction.0)

-- an optional sign before what is known
first_known : (b : ℕ) (rest : List ℕ) (minus plus : Bool) → (b == 45) ≡ minus → (b == 43) ≡ plus
    → list_any is_foreign (cond minus rest (drop (cond plus 1 0) (b ∷ rest))) ≡ false → list_any is_foreign (b ∷ rest) ≡ false
first_known b rest true plus first second e = subst (λ x. (is_foreign x || list_any is_foreign rest) ≡ false) (sym (same_byte b 45 first)) e
first_known b rest false true first second e = subst (λ x. (is_foreign x || list_any is_foreign rest) ≡ false) (sym (same_byte b 43 second)) e
first_known b rest false false first second e = e

sign_known : (text : List ℕ) → list_any is_foreign (without_leading_sign text) ≡ false → list_any is_foreign text ≡ false
sign_known [] e = refl
sign_known (b ∷ rest) e = first_known b rest (b == 45) (b == 43) refl refl e

exponent_cases : (text : List ℕ) (has good : Bool) → has_exponent text ≡ has → is_exponent (exponent_of text) ≡ good → (not has || good) ≡ true → list_any is_foreign (mantissa_of text) ≡ false → list_any is_foreign (without_leading_sign text) ≡ false
exponent_cases text false good first second e mantissa = ap (list_any is_foreign) (sym (before_first_none is_exponent_mark (without_leading_sign text) first)) ∙ mantissa
exponent_cases text true true first second e mantissa =
    let long = and_parts _ _ second in
    let digits = and_parts _ _ long.1 in
    list_any_parts is_exponent_mark is_foreign (without_leading_sign text) mark_known mantissa (sign_known (exponent_of text) (digits_known (without_leading_sign (exponent_of text)) digits.1))
exponent_cases text true false first second e mantissa = absurd cc

none_foreign : (text : List ℕ) → list_any is_foreign text ≡ false → list_all is_plain text ≡ true
none_foreign [] e = refl
none_foreign (b ∷ text) e =
    let parts = or_parts (is_foreign b) (list_any is_foreign text) e in
    ap₂ (λ (x : Bool) (y : Bool). x && y) (not_false (is_plain b) parts.0) (none_foreign text parts.1)

pub number_fills : (text : List ℕ) → is_number text ≡ true → Fills false text
number_fills text e =
    let parts = and_parts (is_mantissa (mantissa_of text)) (not (has_exponent text) || is_exponent (exponent_of text)) e in
    all_fill text (none_foreign text (sign_known text (exponent_cases text (has_exponent text) (is_exponent (exponent_of text)) refl refl parts.1 (mantissa_known (mantissa_of text) parts.0))))
