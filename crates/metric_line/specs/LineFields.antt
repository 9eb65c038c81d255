-- The fields of a metric line.
use Rattle.std.specs.Prelude.{ℕ, ◌-◌, ◌^◌, ◌==◌, min, Bool, ◌||◌, nat_lt, List, length, filter}
use Rattle.std.specs.List.{slice_split}

-- a byte between two fields: the tab, the vertical tab, the form feed, the carriage return and the space
unfoldable pub is_blank : ℕ → Bool
is_blank b = b == 9 || (b == 11 || (b == 12 || (b == 13 || b == 32)))

-- the fields of a line: what stands between blanks and has bytes
unfoldable pub fields_of : List ℕ → List (List ℕ)
fields_of line = filter (λ piece. nat_lt 0 (length piece)) (slice_split is_blank line)

-- how many fields there are, in 32 bits: the greatest number stands for all greater counts
abbrev pub capped_count : List (List ℕ) → ℕ
capped_count fields = min (length fields) (2 ^ 32 - 1)
