-- The text of what a ring file shows.
use Rattle.std.specs.Prelude.{ℕ, ℤ, ◌+◌, List, [], ◌∷◌, ◌++◌, codes, decimal, slice_get, Option, Some, None}
use Rattle.std.specs.Option.{option_map_or}
use Rattle.fixed_num.specs.Print.{milli_text}
use Rattle.ring_format.specs.Layout.{LayoutValue}
use Rattle.series_fetch.specs.declared.range.Window.{Window}
use Rattle.series_fetch.specs.declared.range.Window.TheVariants.{Empty, Range}

unfoldable pub none_word : List ℕ
none_word = codes "None"

abbrev pub value_text : Option ℤ → List ℕ
value_text None = none_word
value_text (Some value) = milli_text value

-- a moment and its value, with a tab between
abbrev pub row_text : ℕ → Option ℤ → List ℕ
row_text moment value = decimal moment ++ (9 ∷ (value_text value ++ (10 ∷ [])))

-- those of values that are a step apart, from a first moment on
abbrev pub rows_text : ℕ → ℕ → List (Option ℤ) → List ℕ
rows_text first step [] = []
rows_text first step (value ∷ values) = row_text first value ++ rows_text (first + step) step values

-- those of the buckets of a window
abbrev pub window_text : LayoutValue → Window → List (Option ℤ) → List ℕ
window_text layout Empty values = []
window_text layout (Range i first end) values =
    option_map_or (λ archive. rows_text first archive.step values) (slice_get layout.archives i) []
