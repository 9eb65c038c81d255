-- What digits write, joined and one by one, and where the first point or exponent stands among them.
use Rattle.std.proofs.Common.{cond, ◌≡◌, ℕ, zero, suc, false, Some, None, lt-ltb, le-leb, length-take, sym, ◌+◌, ◌-◌, ◌*◌, ◌^◌, ◌<◌, ◌≤◌, min, Bool, true, List, [], ◌∷◌, ◌++◌, length, take, get_or, Option, refl, ap, ◌∙◌, arith, rules, not, ◌⊎◌, inl, inr}
use Rattle.std.proofs.Math.Nat.{pow-suc}
use Rattle.std.proofs.lemmas.Bool.{cases_lt, le-ltb, lt-leb, and_from}
use Rattle.std.proofs.Math.Bool.{and-false}
use Rattle.std.proofs.lemmas.List.Folds.{list_all-append}
use Rattle.fixed_num.specs.Decimal.{is_numeral_up_to}
use Rattle.fixed_num.specs.Whole.{number_of_digits, whole_number}
use Rattle.std.proofs.lemmas.Bool.Decides.{nat_tests}
use Rattle.std.specs.Int.{IsInRange}
use Rattle.std.proofs.lemmas.Str.Parse.{digit_at, IsNumeralModel, numerals_by_value, digits_value_short, digits_value-take-le}
use Rattle.std.proofs.lemmas.Int.Digits.{digits_value_more}
use Rattle.std.proofs.lemmas.List.{take_more}
use Rattle.std.proofs.lemmas.List.Sums.{prefix_len-le-length}
use Rattle.std.specs.List.{list_all, position_or_len, position}
use Rattle.std.specs.Char.{is_ascii_digit, digit_value}
use Rattle.std.specs.Option.{unwrap_or}
use Rattle.std.specs.Str.Parse.{digits_value, digits_value_after}

pub numerals : IsNumeralModel (λ ds. list_all is_ascii_digit ds ≡ true) (digits_value 10)
numerals = numerals_by_value _ (search rules)

-- one more digit in front of the others
shifted : (n d p v : ℕ) → (n * 10 + d) * p + v ≡ n * (p * 10) + ((0 * 10 + d) * p + v)
shifted n d p v = omega arith

-- digits behind those of n
pub digits_value_after_is : (n : ℕ) (ds : List ℕ) → digits_value_after 10 n ds ≡ n * 10 ^ length ds + digits_value 10 ds
digits_value_after_is n [] = omega arith
digits_value_after_is n (c ∷ cs) =
    let behind : digits_value_after 10 n (c ∷ cs) ≡ (n * 10 + digit_value c) * 10 ^ length cs + digits_value 10 cs = digits_value_after_is (n * 10 + digit_value c) cs in
    let alone : digits_value 10 (c ∷ cs) ≡ (0 * 10 + digit_value c) * 10 ^ length cs + digits_value 10 cs = digits_value_after_is (0 * 10 + digit_value c) cs in
    behind ∙ (shifted n (digit_value c) (10 ^ length cs) (digits_value 10 cs) ∙ rw (pow-suc 10 (length cs), alone) refl)

pub digits_value_after-append : (n : ℕ) (xs ys : List ℕ) → digits_value_after 10 n (xs ++ ys) ≡ digits_value_after 10 (digits_value_after 10 n xs) ys
digits_value_after-append n [] ys = refl
digits_value_after-append n (c ∷ cs) ys = digits_value_after-append (n * 10 + digit_value c) cs ys

pub digits_value-append : (xs ys : List ℕ) → digits_value 10 (xs ++ ys) ≡ digits_value 10 xs * 10 ^ length ys + digits_value 10 ys
digits_value-append xs ys = digits_value_after-append 0 xs ys ∙ digits_value_after_is (digits_value 10 xs) ys

pub digit_value_is : (c : ℕ) → IsInRange 48 57 c → digit_value c ≡ c - 48
digit_value_is c h = grind (arith, nat_tests)

pub digit_range : (c : ℕ) → is_ascii_digit c ≡ true → IsInRange 48 57 c
digit_range c h = grind (arith, nat_tests)

-- each byte of a text of digits is a digit
pub digit_byte_at : (ds : List ℕ) (i : ℕ) → list_all is_ascii_digit ds ≡ true → i < length ds → IsInRange 48 57 (get_or ds i 0)
digit_byte_at ds i digits h = digit_at ds i (numerals.to ds digits) h

-- a text of digits is read from the left
pub number_more : (ds : List ℕ) (i : ℕ) → list_all is_ascii_digit ds ≡ true → i < length ds → digits_value 10 (take (i + 1) ds) ≡ digits_value 10 (take i ds) * 10 + (get_or ds i 0 - 48)
number_more ds i digits h = digits_value_more 10 ds i h ∙ ap (λ d. digits_value 10 (take i ds) * 10 + d) (digit_value_is _ (digit_byte_at ds i digits h))

pub digits_value_after_more : (n : ℕ) (ds : List ℕ) (i : ℕ) → list_all is_ascii_digit ds ≡ true → i < length ds → digits_value_after 10 n (take (i + 1) ds) ≡ digits_value_after 10 n (take i ds) * 10 + (get_or ds i 0 - 48)
digits_value_after_more n ds i digits h =
    ap (digits_value_after 10 n) (take_more ds i 0 h)
    ∙ (digits_value_after-append n (take i ds) (get_or ds i 0 ∷ [])
    ∙ ap (λ d. digits_value_after 10 n (take i ds) * 10 + d) (digit_value_is _ (digit_byte_at ds i digits h)))

-- a number that is capped may be capped on the way
pub capped_more : (x d : ℕ) → min (min (min x (2 ^ 128 - 1) * 10) (2 ^ 128 - 1) + d) (2 ^ 128 - 1) ≡ min (x * 10 + d) (2 ^ 128 - 1)
capped_more x d = omega arith

-- a front of few digits is a small number
pub front_below : (ds : List ℕ) (i k : ℕ) → list_all is_ascii_digit ds ≡ true → length ds ≤ k → digits_value 10 (take i ds) < 10 ^ k
front_below ds i k digits few = omega (arith, digits_value-take-le 10 ds i (omega arith), digits_value_short numerals ds k digits few)

-- the first place that passes, by the place that a search gives
place_of : {X : Type 0} (p : X → Bool) (xs : List X) → (position_or_len p xs < length xs) ⊎ (length xs ≤ position_or_len p xs) → unwrap_or (position p xs) (length xs) ≡ position_or_len p xs
place_of p xs (inl h) = rw (lt-ltb _ _ h) refl
place_of p xs (inr h) = rw (le-ltb _ _ h) (omega (arith, prefix_len-le-length (λ x. not (p x)) xs))

pub position_or_len-from_position : {X : Type 0} (p : X → Bool) (xs : List X) (found : Option ℕ) → found ≡ position p xs → unwrap_or found (length xs) ≡ position_or_len p xs
position_or_len-from_position p xs found e = ap (λ o. unwrap_or o (length xs)) e ∙ place_of p xs (cases_lt (position_or_len p xs) (length xs))

-- ---- digits that are read until one is missing

-- what is known of the front of a text once one more digit is read
pub record IsReadTo (text : List ℕ) (i number : ℕ) : Type 0 where
  pub digits : list_all is_ascii_digit (take i text) ≡ true
  pub value : number ≡ digits_value 10 (take i text)

pub digit_read : (text : List ℕ) (i number : ℕ) → list_all is_ascii_digit (take i text) ≡ true → number ≡ digits_value 10 (take i text) → i < length text → is_ascii_digit (get_or text i 0) ≡ true → IsReadTo text (i + 1) (number * 10 + (get_or text i 0 - 48))
digit_read text i number digits e h digit =
    let more : take (i + 1) text ≡ take i text ++ get_or text i 0 ∷ [] = take_more text i 0 h in
    record {
      digits = ap (list_all is_ascii_digit) more ∙ (list_all-append is_ascii_digit (take i text) (get_or text i 0 ∷ []) ∙ and_from _ _ digits (and_from _ _ digit refl));
      value = sym (ap (digits_value 10) more
          ∙ (digits_value_after-append 0 (take i text) (get_or text i 0 ∷ [])
          ∙ (ap (λ d. digits_value 10 (take i text) * 10 + d) (digit_value_is _ (digit_range _ digit))
          ∙ ap (λ n. n * 10 + (get_or text i 0 - 48)) (sym e))));
    }

-- what is read of at most k digits is a small number
pub read_below : (text : List ℕ) (i number k : ℕ) → IsReadTo text i number → i ≤ k → number < 10 ^ k
read_below text i number k read few =
    rw read.value (digits_value_short numerals (take i text) k read.digits (omega (arith, length-take i text)))

pub digit_missing : (text : List ℕ) (i : ℕ) → i < length text → is_ascii_digit (get_or text i 0) ≡ false → list_all is_ascii_digit text ≡ false
digit_missing [] i h e = absurd (omega arith)
digit_missing (b ∷ bs) zero h e = rw e refl
digit_missing (b ∷ bs) (suc i) h e = rw (digit_missing bs i (omega arith) e) (and-false (is_ascii_digit b))

pub number_missing : (text : List ℕ) (i : ℕ) → i < length text → is_ascii_digit (get_or text i 0) ≡ false → number_of_digits text ≡ None
unfolding number_of_digits
number_missing text i h e = rw (digit_missing text i h e) refl

pub number_read : (text : List ℕ) (number : ℕ) → list_all is_ascii_digit text ≡ true → number ≡ digits_value 10 text → number_of_digits text ≡ Some number
unfolding number_of_digits
number_read text number digits e = rw digits (ap (λ n. Some n) (sym e))

some_where : (form : Bool) (n number : ℕ) → Some number ≡ cond form (Some n) None → (form ≡ true) × (number ≡ n)
some_where true n number h = (refl, cc)
some_where false n number h = absurd cc

pub number_of_digits_is : (text : List ℕ) (number : ℕ) → Some number ≡ number_of_digits text → (list_all is_ascii_digit text ≡ true) × (number ≡ digits_value 10 text)
unfolding number_of_digits
number_of_digits_is text number e = some_where (list_all is_ascii_digit text) (digits_value 10 text) number e

pub whole_number_is : (text : List ℕ) (number : ℕ) → Some number ≡ whole_number text → (is_numeral_up_to 19 text ≡ true) × (number ≡ digits_value 10 text)
unfolding whole_number
whole_number_is text number e = some_where (is_numeral_up_to 19 text) (digits_value 10 text) number e

pub whole_number_empty : (text : List ℕ) → length text ≡ 0 → whole_number text ≡ None
unfolding whole_number
whole_number_empty text e = rw e refl

pub whole_number_long : (text : List ℕ) → 19 < length text → whole_number text ≡ None
unfolding whole_number
whole_number_long text h = rw (lt-leb (length text) 19 h, and-false) refl

pub whole_number_few : (text : List ℕ) → 0 < length text → length text ≤ 19 → number_of_digits text ≡ whole_number text
unfolding whole_number number_of_digits
whole_number_few text some few = rw (lt-ltb 0 (length text) some, le-leb (length text) 19 few) refl
