-- The digits at the front of a text.
use Rattle.std.proofs.Common.{◌≡◌, ℕ, Bool, true, false, suc, ◌+◌, arith, List, [], ◌∷◌, refl}
use Rattle.std.specs.Char.{is_ascii_digit}
use Rattle.std.specs.List.{list_all}
use Rattle.schema_rules.specs.Retentions.{digits_of}

one_plus : (n : ℕ) → 1 + n ≡ suc n
one_plus n = omega arith

one_more : (b : ℕ) (bs : List ℕ) (t : Bool) → is_ascii_digit b ≡ t → list_all is_ascii_digit (digits_of bs) ≡ true → list_all is_ascii_digit (digits_of (b ∷ bs)) ≡ true
one_more b bs true e more = rw (e, one_plus) (rw e more)
one_more b bs false e more = rw e refl

pub digits_are_digits : (text : List ℕ) → list_all is_ascii_digit (digits_of text) ≡ true
digits_are_digits [] = refl
digits_are_digits (b ∷ bs) = one_more b bs (is_ascii_digit b) refl (digits_are_digits bs)
