-- A plain decimal at the front of a text, by its digits before and behind the point.
use Rattle.std.proofs.Common.{◌≡◌, ℕ, suc, ◌+◌, ◌*◌, ◌/◌, ◌^◌, ◌<◌, ◌≤◌, true, false, List, [], ◌∷◌, ◌++◌, length, take, drop, get_or, All, Some, Ok, eqb, pos, refl, ap, sym, ◌∙◌, arith, lt-ltb}
use Rattle.std.proofs.Math.Nat.{div-le_self}
use Rattle.std.proofs.Math.Seq.{take-add, take-append_seam, drop-append-add}
use Rattle.std.proofs.lemmas.Bool.{and_parts, le-leb, ne_eqb}
use Rattle.std.proofs.lemmas.Bool.Decides.{nat_tests}
use Rattle.std.proofs.lemmas.List.{drop_more}
use Rattle.std.proofs.lemmas.List.Elements.{All-nil, All-cons, All-append}
use Rattle.std.specs.List.{list_all, list_any, position_or_len}
use Rattle.std.specs.Char.{is_ascii_digit}
use Rattle.std.specs.Int.{IsInRange}
use Rattle.std.specs.Str.Parse.{digits_value, starts_with_minus, without_leading_sign}
use Rattle.fixed_num.specs.declared.reached.Reached.{Reached}
use Rattle.fixed_num.specs.Decimal.{fits, is_point, whole_of, fraction_of}
use Rattle.fixed_num.proofs.FitLemmas.{values_are_within}
use Rattle.fixed_num.specs.Read.{fitting, milli_result, moved, reached_in, reached_parts}
use Rattle.fixed_num.proofs.DigitLemmas.{digit_byte_at, digit_range, number_read}
use Rattle.fixed_num.proofs.GrammarLemmas.{after_first_none, before_first_none, digits_none, position_or_len_behind}
use Rattle.fixed_num.proofs.ReadLemmas.{moved_few, no_mark, reached_plain, read_some}

-- digits, and optionally a point and digits behind it
pub record IsPlain (text before behind : List ℕ) : Type 0 where
  pub whole : before ≡ whole_of text
  pub fraction : behind ≡ fraction_of text
  pub digits : list_all is_ascii_digit before ≡ true
  pub more : list_all is_ascii_digit behind ≡ true
  pub some : 0 < length before
  pub first : IsInRange 48 57 (get_or text 0 0)

no_point : (ds : List ℕ) → list_all is_ascii_digit ds ≡ true → list_any is_point ds ≡ false
no_point ds digits = digits_none is_point (λ b h. grind (arith, nat_tests)) ds digits

pub plain_whole : (ds : List ℕ) → list_all is_ascii_digit ds ≡ true → 0 < length ds → IsPlain ds ds []
plain_whole ds digits some = record {
  whole = sym (before_first_none is_point ds (no_point ds digits));
  fraction = sym (after_first_none is_point ds (no_point ds digits));
  digits = digits;
  more = refl;
  some = some;
  first = digit_byte_at ds 0 digits some;
}

first_of : (before rest : List ℕ) → list_all is_ascii_digit before ≡ true → 0 < length before → IsInRange 48 57 (get_or (before ++ rest) 0 0)
first_of [] rest digits some = absurd (omega arith)
first_of (d ∷ ds) rest digits some = digit_range d (and_parts _ _ digits).0

pub plain_pointed : (before behind : List ℕ) → list_all is_ascii_digit before ≡ true → list_all is_ascii_digit behind ≡ true → 0 < length before → IsPlain (before ++ 46 ∷ behind) before behind
plain_pointed before behind digits more some =
    let at : position_or_len is_point (before ++ 46 ∷ behind) ≡ length before = position_or_len_behind is_point before 46 behind (no_point before digits) refl in
    record {
      whole = sym (ap (λ (n : ℕ). take n (before ++ 46 ∷ behind)) at ∙ take-append_seam before (46 ∷ behind));
      fraction = sym (ap (λ (n : ℕ). drop (n + 1) (before ++ 46 ∷ behind)) at ∙ drop-append-add before (46 ∷ behind) 1);
      digits = digits;
      more = more;
      some = some;
      first = first_of before (46 ∷ behind) digits some;
    }

-- no sign stands before a digit
pub no_sign : (text : List ℕ) → IsInRange 48 57 (get_or text 0 0) → (starts_with_minus text ≡ false) × (without_leading_sign text ≡ text)
no_sign text first =
    let minus : starts_with_minus text ≡ false = ne_eqb _ _ (λ e. omega (arith, first)) in
    let plus : eqb (get_or text 0 0) 43 ≡ false = ne_eqb _ _ (λ e. omega (arith, first)) in
    (minus, rw (minus, plus) refl)

fits_pos : (n : ℕ) → n < 2 ^ 63 → fitting fits (pos n) ≡ Ok (pos n)
fits_pos n less = rw (le-leb n (10 ^ 30) (omega arith)) refl

-- the value of a plain decimal, by the numbers before and behind its point
pub plain_value : (text before behind : List ℕ) (whole fraction : ℕ) → IsPlain text before behind → whole ≡ digits_value 10 before → fraction ≡ digits_value 10 behind → whole < 10 ^ 15 → fraction < 10 ^ 15
    → milli_result text ≡ Ok (pos (reached_parts whole fraction (length behind) 1000).whole)
plain_value text before behind whole fraction plain w f less small =
    let sign = no_sign text plain.first in
    let r : Reached = reached_parts whole fraction (length behind) (10 ^ 3) in
    let parts : moved 3 0 text ≡ Some r =
    moved_few text before behind 3 whole fraction plain.whole plain.fraction plain.some (sym (number_read before whole plain.digits w)) (sym (number_read behind fraction plain.more f)) (omega arith) less small in
    let reach : reached_in (10 ^ 3) text ≡ Some r =
    sym (reached_plain text text 3 (sym sign.1) (no_mark text before behind plain.whole plain.fraction plain.digits plain.more)) ∙ parts in
    let part : fraction * 1000 / 10 ^ length behind ≤ fraction * 1000 = div-le_self _ _ in
    let room : whole * 1000 + fraction * 1000 / 10 ^ length behind < 2 ^ 63 = omega (arith, part, less, small) in
    sym (read_some fits values_are_within (10 ^ 3) text r reach) ∙ (rw sign.0 refl ∙ fits_pos _ room)

-- ---- a front of a text

pub pointed_front : (text : List ℕ) (n m : ℕ) → n < length text → get_or text n 0 ≡ 46 → take (n + 1 + m) text ≡ take n text ++ 46 ∷ take m (drop (n + 1) text)
pointed_front text n m within point =
    let more : drop n text ≡ 46 ∷ drop (n + 1) text = drop_more text n 0 within ∙ ap (λ (b : ℕ). b ∷ drop (n + 1) text) point in
    ap (λ (k : ℕ). take k text) (let e : n + 1 + m ≡ n + suc m = omega arith in e)
    ∙ take-add n (suc m) text
    ∙ ap (λ (rest : List ℕ). take n text ++ take (suc m) rest) more

-- digits and points are no blanks
pub clean_digits : (ds : List ℕ) → list_all is_ascii_digit ds ≡ true → All (λ b. 32 < b) ds
clean_digits [] digits = All-nil _
clean_digits (d ∷ ds) digits =
    let parts : (is_ascii_digit d ≡ true) × (list_all is_ascii_digit ds ≡ true) = and_parts _ _ digits in
    All-cons (λ b. 32 < b) d ds (omega (arith, digit_range d parts.0)) (clean_digits ds parts.1)

pub clean_pointed : (before behind : List ℕ) → list_all is_ascii_digit before ≡ true → list_all is_ascii_digit behind ≡ true → All (λ b. 32 < b) (before ++ 46 ∷ behind)
clean_pointed before behind digits more =
    All-append (λ b. 32 < b) before (46 ∷ behind) (clean_digits before digits) (All-cons (λ b. 32 < b) 46 behind (omega arith) (clean_digits behind more))
