-- Dates of the calendar.
use Rattle.std.proofs.Common.{◌≡◌, ℕ, ◌<◌, ◌≤◌, true, List, length, arith}
use Rattle.std.specs.List.{list_all}
use Rattle.std.specs.Char.{is_ascii_digit}
use Rattle.std.specs.Str.Parse.{digits_value}
use Rattle.std.proofs.lemmas.Str.Parse.{digits_value_short}
use Rattle.fixed_num.proofs.DigitLemmas.{numerals}

pub few_digits_below : (digits : List ℕ) → list_all is_ascii_digit digits ≡ true → length digits ≤ 4 → digits_value 10 digits < 10000
few_digits_below ds digits few = omega (arith, digits_value_short numerals ds 4 digits few)
