-- How many bytes series, their names and texts take, and what a question may take.
use Rattle.std.specs.Prelude.{ℕ, ◌+◌, ◌-◌, ◌*◌, ◌/◌, ◌^◌, min, List, length}
use Rattle.std.specs.List.{sum_by}
use Rattle.series_set.specs.declared.allowance.Size.{Size}
use Rattle.series_set.specs.Series.{SeriesValue}

-- so many bytes, or the most that a number of 64 bits holds
abbrev pub counted : ℕ → ℕ
counted bytes = min bytes (2 ^ 64 - 1)

-- names of so many bytes, and so many others
abbrev pub size : ℕ → ℕ → Size
size names others = record { names = names; others = others }

-- both together
abbrev pub together : Size → Size → Size
together one other = size (counted (one.names + other.names)) (counted (one.others + other.others))

-- beside its name a series takes its path, 16 bytes for each value, and 160 more
abbrev pub others_of : SeriesValue → ℕ
others_of series = (length series.path + 160) + length series.values * 16

abbrev pub size_of : SeriesValue → Size
size_of series = size (length series.name) (counted (others_of series))

abbrev pub size_of_all : List SeriesValue → Size
size_of_all set = size (counted (sum_by (λ s. length s.name) set)) (counted (sum_by others_of set))

-- a sixteenth of the bytes is for names, rounded down, and all others for the rest
abbrev pub shares_of : ℕ → Size
shares_of bytes = size (bytes / 16) (bytes - bytes / 16)
