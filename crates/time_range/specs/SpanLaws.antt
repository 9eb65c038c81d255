-- Spans that are written one behind the other add up.
use Rattle.std.specs.Prelude.{◌≡◌, ℕ, ◌*◌, ◌<◌, true, List, [], ◌∷◌, ◌++◌, length, Some, All}
use Rattle.std.specs.List.{list_all, sum_by}
use Rattle.std.specs.List.Sorted.{IsPermutation}
use Rattle.std.specs.Char.{is_ascii_digit}
use Rattle.std.specs.Option.{IsSome, unwrap_or}
use Rattle.std.specs.Str.Parse.{digits_value}
use Rattle.time_range.specs.Spans.{seconds_of}
use Rattle.time_range.specs.TimeUnits.{unit_seconds}

-- a number and a unit
pub record Part : Type 0 where
  pub digits : List ℕ
  pub unit : List ℕ

-- at least one digit, and a unit that there is
pub record IsPart (part : Part) : Type 0 where
  pub some : 0 < length part.digits
  pub number : list_all is_ascii_digit part.digits ≡ true
  pub known : IsSome (unit_seconds part.unit)

abbrev pub part_seconds : Part → ℕ
part_seconds part = digits_value 10 part.digits * unwrap_or (unit_seconds part.unit) 0

-- the text of spans
unfoldable pub written : List Part → List ℕ
written [] = []
written (part ∷ parts) = part.digits ++ (part.unit ++ written parts)

-- one span or more, each with a number and a unit
abbrev pub AreParts : List Part → Type 0
AreParts parts = (0 < length parts) × All IsPart parts

-- the text of spans has the seconds of all of them
abbrev pub AddsUp : Type 0
AddsUp = (parts : List Part) → AreParts parts → seconds_of (written parts) ≡ Some (sum_by part_seconds parts)

-- and it has the same in any order
abbrev pub AddsUpInAnyOrder : Type 0
AddsUpInAnyOrder = (parts others : List Part) → AreParts parts → IsPermutation parts others → seconds_of (written others) ≡ seconds_of (written parts)

-- no other text has seconds
abbrev pub IsOfSpansAlone : Type 0
IsOfSpansAlone = (text : List ℕ) → IsSome (seconds_of text) → (parts : List Part) × AreParts parts × (text ≡ written parts)
