-- Points in order of time.
use Rattle.std.specs.Prelude.{ℤ, nat_le, List, [], ◌∷◌, map, if◌then◌else◌}
use Rattle.aggregate_front.specs.declared.timed_value.TimedValue.{TimedValue}

-- a point before the first of these that is not earlier
unfoldable pub put_in_time : TimedValue → List TimedValue → List TimedValue
put_in_time point [] = point ∷ []
put_in_time point (other ∷ others) = if nat_le point.time other.time then point ∷ other ∷ others else other ∷ put_in_time point others

-- the points in order of time, and those of the same time in the order in which they came
unfoldable pub in_time_order : List TimedValue → List TimedValue
in_time_order [] = []
in_time_order (point ∷ points) = put_in_time point (in_time_order points)

abbrev pub values_of : List TimedValue → List ℤ
values_of points = map (λ point. point.value) points
