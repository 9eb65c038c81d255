-- The parts of texts.
use Rattle.std.specs.Prelude.{ℕ, ℤ, Bool, List, [], ◌∷◌, ◌++◌, Option, Some, None, if◌then◌else◌}
use Rattle.fixed_num.specs.Print.{milli_text}
use Rattle.series_set.specs.OnGrid.{points_from}
use Rattle.series_set.specs.Series.{SeriesValue}

-- a value as its decimal, or a word where it is missing
abbrev pub value_or : List ℕ → Option ℤ → List ℕ
value_or word None = word
value_or word (Some v) = milli_text v

-- Texts with a separator between each two.
abbrev mutual
  pub joined : List ℕ → List (List ℕ) → List ℕ
  joined sep [] = []
  joined sep (text ∷ texts) = text ++ further sep texts

  pub further : List ℕ → List (List ℕ) → List ℕ
  further sep [] = []
  further sep (text ∷ texts) = sep ++ (text ++ further sep texts)

-- the separator, but not before the first text
abbrev pub separator : List ℕ → Bool → List ℕ
separator sep is_first = if is_first then [] else sep

-- the values of a series, each with its moment
abbrev pub points_of : SeriesValue → List (ℕ × Option ℤ)
points_of s = points_from s.start s.step s.values
