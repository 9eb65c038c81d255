-- Whole numbers that are digits and nothing else.
use Rattle.std.specs.Prelude.{ℕ, List, Option, Some, None, if◌then◌else◌}
use Rattle.std.specs.List.{list_all}
use Rattle.std.specs.Char.{is_ascii_digit}
use Rattle.std.specs.Str.Parse.{digits_value}
use Rattle.fixed_num.specs.Decimal.{is_numeral_up_to}

-- the number that digits write, 0 where there are none
unfoldable pub number_of_digits : List ℕ → Option ℕ
number_of_digits text = if list_all is_ascii_digit text then Some (digits_value 10 text) else None

-- the number of a text of 1 to 19 digits, which fits 64 bits
unfoldable pub whole_number : List ℕ → Option ℕ
whole_number text = if is_numeral_up_to 19 text then Some (digits_value 10 text) else None
