-- What the functions of one series make of its values.
use Rattle.std.specs.Prelude.{ℕ, ◌+◌, ◌-◌, ◌^◌, ℤ, pos, neg_ℤ, ◌+ℤ◌, ◌-ℤ◌, ◌*ℤ◌, unsigned_abs, int_lt, Bool, true, false, not, nat_lt, nat_le, List, ◌∷◌, length, map, take, drop, Option, Some, None, is_none, is_some, if◌then◌else◌, ⊤, ◌<◌, ◌≤◌}
use Rattle.std.specs.Int.{int_min}
use Rattle.std.specs.List.{last_or, prefix_len, range_with_len, reduce, slice_index_or, suffix_len}
use Rattle.std.specs.Ordering.{int_eq}
use Rattle.std.specs.Option.{option_and_then, option_map_or, option_or, unwrap_or}
use Rattle.series_set.specs.Series.{SeriesValue}
use Rattle.series_set.specs.Average.{known, sum_of}
use Rattle.series_funcs.specs.declared.changing.Change.{Change}
use Rattle.series_funcs.specs.declared.changing.Change.TheVariants.{Magnitude, Ratio, Plus, KnownOr, TellKnown, NotAbove, NotBelow}
use Rattle.series_funcs.specs.declared.kinds.Shape.{Shape}
use Rattle.series_funcs.specs.declared.kinds.Shape.TheVariants.{Absolute, Scale, Offset, OffsetToZero, Derivative, NonNegativeDerivative, PerSecond, Integral, Delay, KeepLastValue, TransformNull, IsNonNull, Changed, RemoveAboveValue, RemoveBelowValue, ScaleToSeconds}
use Rattle.series_funcs.specs.Named.{call_text}
use Rattle.series_funcs.specs.Quotients.{floor_quotient}
use Rattle.fixed_num.specs.Milli.{value_of}

-- ---- each value by itself

-- the value 1, where a test holds, and else 0
abbrev pub one_where : Bool → ℤ
one_where holds = if holds then pos 1000 else pos 0

unfoldable pub magnitude : ℤ → Option ℤ
magnitude v = value_of (pos (unsigned_abs v))

unfoldable pub ratio_to : ℤ → ℕ → ℤ → Option ℤ
ratio_to factor divisor v = value_of (floor_quotient (v *ℤ factor) (pos divisor))

unfoldable pub plus : ℤ → ℤ → Option ℤ
plus other v = value_of (v +ℤ other)

abbrev pub not_above : ℤ → ℤ → Option ℤ
not_above most v = if int_lt most v then None else Some v

abbrev pub not_below : ℤ → ℤ → Option ℤ
not_below least v = if int_lt v least then None else Some v

unfoldable pub changed_value : Change → Option ℤ → Option ℤ
changed_value Magnitude value = option_and_then magnitude value
changed_value (Ratio factor divisor) value = option_and_then (ratio_to factor divisor) value
changed_value (Plus other) value = option_and_then (plus other) value
changed_value (KnownOr other) value = Some (unwrap_or value other)
changed_value TellKnown value = Some (one_where (is_some value))
changed_value (NotAbove most) value = option_and_then (not_above most) value
changed_value (NotBelow least) value = option_and_then (not_below least) value

-- a divisor that is not 0, and a number that a value less another can be
abbrev pub MayChange : Change → Type 0
MayChange (Ratio factor divisor) = 0 < divisor
MayChange (Plus other) = unsigned_abs other ≤ 10 ^ 30
MayChange _ = ⊤

unfoldable pub changed_each : Change → List (Option ℤ) → List (Option ℤ)
changed_each change values = map (changed_value change) values

-- each value less the least known
unfoldable pub above_least : List (Option ℤ) → List (Option ℤ)
above_least values = option_map_or (λ least. changed_each (Plus (neg_ℤ least)) values) (reduce int_min (known values)) values

-- ---- each value and those before it

abbrev pub at : List (Option ℤ) → ℕ → Option ℤ
at values place = slice_index_or values place None

-- what f makes of each place
abbrev pub at_places : (List (Option ℤ) → ℕ → Option ℤ) → List (Option ℤ) → List (Option ℤ)
at_places f values = map (f values) (range_with_len 0 (length values))

-- a value less another; missing where either is
unfoldable pub minus : Option ℤ → Option ℤ → Option ℤ
minus value other = option_and_then (λ v. option_and_then (λ o. value_of (v -ℤ o)) other) value

-- the value one place before; missing at the first
abbrev pub before : List (Option ℤ) → ℕ → Option ℤ
before values place = slice_index_or (None ∷ values) place None

-- a value less the one before
abbrev pub derivative_at : List (Option ℤ) → ℕ → Option ℤ
derivative_at values place = minus (at values place) (before values place)

-- the sum of the known up to a place, where the value there is known
unfoldable pub integral_at : List (Option ℤ) → ℕ → Option ℤ
integral_at values place = option_and_then (λ _. value_of (sum_of (known (take (place + 1) values)))) (at values place)

-- the value so many places before; missing at the first so many
abbrev pub delayed_at : ℕ → List (Option ℤ) → ℕ → Option ℤ
delayed_at places values place = if nat_lt place places then None else at values (place - places)

abbrev pub last_known : List (Option ℤ) → Option ℤ
last_known values = last_or None (known values)

-- how many missing values in a row stand before a place, and from it on
abbrev pub gap_before : List (Option ℤ) → ℕ → ℕ
gap_before values place = suffix_len is_none (take place values)

abbrev pub gap_from : List (Option ℤ) → ℕ → ℕ
gap_from values place = prefix_len is_none (drop place values)

-- whether a gap is no longer than the most, if there is one
abbrev pub is_short : Option ℕ → ℕ → Bool
is_short most gap = option_map_or (nat_le gap) most true

-- what the gap round a place takes: the last known before, where the whole gap is short
unfoldable pub fill_at : Option ℕ → List (Option ℤ) → ℕ → Option ℤ
fill_at most values place = if is_short most (gap_before values place + gap_from values place) then last_known (take place values) else None

abbrev pub kept_at : Option ℕ → List (Option ℤ) → ℕ → Option ℤ
kept_at most values place = option_or (at values place) (fill_at most values place)

-- whether a value is known, another is, and the two differ
abbrev pub differs : Option ℤ → Option ℤ → Bool
differs (Some v) (Some other) = not (int_eq v other)
differs _ _ = false

-- 1 where the value differs from the last known before it
unfoldable pub change_at : List (Option ℤ) → ℕ → Option ℤ
change_at values place = Some (one_where (differs (at values place) (last_known (take place values))))

-- ---- the functions

-- each value less the one before, where that is not below 0
abbrev pub rises : List (Option ℤ) → List (Option ℤ)
rises values = changed_each (NotBelow (pos 0)) (at_places derivative_at values)

-- what a function makes of values that are a step apart; those that move a series leave its values
unfoldable pub shaped_values : Shape → ℕ → List (Option ℤ) → List (Option ℤ)
shaped_values Absolute step values = changed_each Magnitude values
shaped_values (Scale billionths) step values = changed_each (Ratio billionths 1000000000) values
shaped_values (Offset by) step values = changed_each (Plus by) values
shaped_values OffsetToZero step values = above_least values
shaped_values Derivative step values = at_places derivative_at values
shaped_values NonNegativeDerivative step values = rises values
shaped_values PerSecond step values = changed_each (Ratio (pos 1) step) (rises values)
shaped_values Integral step values = at_places integral_at values
shaped_values (Delay places) step values = at_places (delayed_at places) values
shaped_values (KeepLastValue most) step values = at_places (kept_at most) values
shaped_values (TransformNull value) step values = changed_each (KnownOr value) values
shaped_values IsNonNull step values = changed_each TellKnown values
shaped_values Changed step values = at_places change_at values
shaped_values (RemoveAboveValue most) step values = changed_each (NotAbove most) values
shaped_values (RemoveBelowValue least) step values = changed_each (NotBelow least) values
shaped_values (ScaleToSeconds seconds) step values = changed_each (Ratio (pos seconds) step) values
shaped_values _ step values = values

-- the series under the name of the call, with its values shaped
unfoldable pub shaped_series : Shape → List ℕ → List ℕ → SeriesValue → SeriesValue
shaped_series kind function tail s = record s { name = call_text function s.name tail; values = shaped_values kind s.step s.values }
