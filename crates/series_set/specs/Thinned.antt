-- A series with fewer values.
use Rattle.std.specs.Prelude.{ℕ, ℤ, ◌*◌, nat_le, List, length, map, Option, if◌then◌else◌}
use Rattle.std.specs.Fork.{slice_chunk}
use Rattle.std.specs.Int.{div_ceil}
use Rattle.std.specs.List.{range_with_len}
use Rattle.series_set.specs.Series.{SeriesValue}
use Rattle.series_set.specs.Average.{average, known}

-- the values in groups of this size from the first on, the last with what is left: the average of the known of each
unfoldable pub group_averages : ℕ → List (Option ℤ) → List (Option ℤ)
group_averages size values = map (λ n. average (known (slice_chunk values size n))) (range_with_len 0 (div_ceil (length values) size))

abbrev pub grouped : ℕ → SeriesValue → SeriesValue
grouped size s = record s { step = size * s.step; values = group_averages size s.values }

-- the series with at most so many values: the groups are as small as that allows
unfoldable pub thinned : ℕ → SeriesValue → SeriesValue
thinned most s = if nat_le (length s.values) most then s else grouped (div_ceil (length s.values) most) s
