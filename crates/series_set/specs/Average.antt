-- The average of known values.
use Rattle.std.specs.Prelude.{ℕ, ℤ, pos, neg_ℤ, ◌*◌, ◌^◌, ◌+ℤ◌, ◌≤ℤ◌, ◌==◌, List, length, Option, Some, None, if◌then◌else◌}
use Rattle.std.specs.Int.{int_div_euclid}
use Rattle.std.specs.List.{filter_map, fold}

-- the values that are not missing
abbrev pub known : List (Option ℤ) → List ℤ
known values = filter_map (λ value. value) values

-- the exact sum
unfoldable pub sum_of : List ℤ → ℤ
sum_of values = fold ◌+ℤ◌ (pos 0) values

-- where the sum of so many values lies
pub record IsWithinSums (count : ℕ) (sum : ℤ) : Type 0 where
  pub least : neg_ℤ (pos (10 ^ 30 * count)) ≤ℤ sum
  pub greatest : sum ≤ℤ pos (10 ^ 30 * count)

-- the sum over the number of values, rounded down: towards the lesser number; missing where there is no value
unfoldable pub average : List ℤ → Option ℤ
average values = if length values == 0 then None else Some (int_div_euclid (sum_of values) (pos (length values)))
