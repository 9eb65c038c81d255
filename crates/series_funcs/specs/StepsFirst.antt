-- Which fault of a call comes first.
use Rattle.std.specs.Prelude.{List, Result, Err}
use Rattle.std.specs.Option.{option_map_or}
use Rattle.series_set.specs.declared.grid.EvalFault.{EvalFault}
use Rattle.series_set.specs.declared.grid.EvalFault.TheVariants.{StepTooWide}
use Rattle.series_set.specs.Series.{SeriesValue}
use Rattle.series_set.specs.CommonGrid.{first_wide}

-- What a call makes of lists of series, each of which is brought to a grid of its own. A step that is too wide is told before all else: the first from the left.
abbrev pub steps_first : {Y : Type 0} → List (List SeriesValue) → Result Y EvalFault → Result Y EvalFault
steps_first sets r = option_map_or (λ m. Err (StepTooWide m)) (first_wide sets) r
