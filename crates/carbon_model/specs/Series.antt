-- What a state shows of one metric.
use Rattle.std.specs.Prelude.{ℕ, ℤ, ◌+◌, ◌*◌, ◌^◌, ◌<◌, List, [], ◌∷◌, length, Option, Some, None}
use Rattle.archive_update.specs.Batch.{step_of}
use Rattle.ring_format.specs.Layout.{LayoutValue}
use Rattle.ring_archive.specs.Ring.{Rings}
use Rattle.series_fetch.specs.declared.range.Window.{Window}
use Rattle.series_fetch.specs.declared.range.Window.TheVariants.{Empty, Range}
use Rattle.series_fetch.specs.Window.{window}
use Rattle.series_fetch.specs.Shown.{shown}
use Rattle.carbon_model.specs.declared.series.Series.{Series}
use Rattle.carbon_model.specs.State.{Kept, State, no_rings, points_in}

-- ---- the series

-- what is shown in a window, unless it is empty
abbrev pub series_in : LayoutValue → Rings → List (ℕ × ℤ) → Window → Option Series
series_in layout rings points Empty = None
series_in layout rings points (Range i first end) =
    Some (record { first = first; step = step_of layout.archives i; values = shown layout rings points (Range i first end) })

-- what is shown of a metric that is kept so and has these pending points, or else this layout: nothing where it has neither file nor points
abbrev pub series_of : LayoutValue → Option Kept → List (ℕ × ℤ) → ℕ → ℕ → ℕ → Option Series
series_of given None [] now from until = None
series_of given None (p ∷ ps) now from until = series_in given no_rings (p ∷ ps) (window given now from until)
series_of given (Some kept) points now from until = series_in kept.layout kept.rings points (window kept.layout now from until)

-- what a state shows of a path
abbrev pub series_at : State → List ℕ → ℕ → ℕ → ℕ → Option Series
series_at s path now from until = series_of (s.rules path) (s.kept path) (points_in s path) now from until

-- all its buckets, and the end of the last, fit 32 bits
abbrev pub EndsInTime : Series → Type 0
EndsInTime s = (0 < s.step) × (s.first + length s.values * s.step < 2 ^ 32)
