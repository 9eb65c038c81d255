-- How the known values of a finer archive become one value of a coarser: exact sums, quotients rounded down, and picked values.
use Rattle.std.specs.Prelude.{ℕ, ◌*◌, ◌==◌, ℤ, pos, ◌+ℤ◌, ◌-◌, Bool, nat_lt, nat_le, List, length, Option, None, if◌then◌else◌, unsigned_abs, slice_get}
use Rattle.std.specs.Int.{int_div_euclid, int_max, int_min}
use Rattle.std.specs.List.{fold, reduce}
use Rattle.fixed_num.specs.Milli.{value_of}
use Rattle.ring_format.specs.declared.archive.Method.{Method}
use Rattle.ring_format.specs.declared.archive.Method.TheVariants.{Average, Sum, Last, Max, Min, AvgZero, AbsMax, AbsMin}

-- the exact sum
unfoldable pub sum_of : List ℤ → ℤ
sum_of known = fold ◌+ℤ◌ (pos 0) known

-- a number got from known values: none where none is known or it does not fit
unfoldable pub result_from : List ℤ → ℤ → Option ℤ
result_from known number = if length known == 0 then None else value_of number

-- the sum over a number of places, rounded down
unfoldable pub mean_over : ℕ → List ℤ → ℤ
mean_over count known = int_div_euclid (sum_of known) (pos count)

-- of two values the one farther from zero, and the one nearer: the earlier at a tie
abbrev pub farther : ℤ → ℤ → ℤ
farther earlier later = if nat_lt (unsigned_abs earlier) (unsigned_abs later) then later else earlier

abbrev pub nearer : ℤ → ℤ → ℤ
nearer earlier later = if nat_lt (unsigned_abs later) (unsigned_abs earlier) then later else earlier

-- the value of known values in order of time, among `all` places; none where none is known or the exact value does not fit
unfoldable pub rolled : Method → List ℤ → ℕ → Option ℤ
rolled Average known all = result_from known (mean_over (length known) known)
rolled Sum known all = result_from known (sum_of known)
rolled Last known all = slice_get known (length known - 1)
rolled Max known all = reduce int_max known
rolled Min known all = reduce int_min known
rolled AvgZero known all = result_from known (mean_over all known)
rolled AbsMax known all = reduce farther known
rolled AbsMin known all = reduce nearer known

-- whether the known of all places are at least the wanted part, which is in millionths
abbrev pub is_enough : ℕ → ℕ → ℕ → Bool
is_enough known all factor = nat_le (factor * all) (known * 1000000)
