-- What holds of common grids, averages and thinned series.
use Rattle.std.specs.Prelude.{◌≡◌, ℕ, ℤ, pos, ◌+ℤ◌, ◌*ℤ◌, ◌≤ℤ◌, ◌<ℤ◌, ◌%◌, ◌<◌, ◌≤◌, true, List, All, length, Some, Ok}
use Rattle.series_set.specs.declared.grid.Grid.{Grid}
use Rattle.series_set.specs.Series.{IsSeries, SeriesValue, moment_at, widest_step}
use Rattle.series_set.specs.Average.{average, sum_of}
use Rattle.series_set.specs.CommonGrid.{common_grid, has_grid, steps_of}
use Rattle.series_set.specs.OnGrid.{on_grid}
use Rattle.series_set.specs.Thinned.{thinned}

-- a number above 0 that is a multiple of each step, and none that is less is one
pub record IsLeastMultiple (steps : List ℕ) (m : ℕ) : Type 0 where
  pub some : 1 ≤ m
  pub multiple : All (λ step. m % step ≡ 0) steps
  pub least : (n : ℕ) → 1 ≤ n → All (λ step. n % step ≡ 0) steps → m ≤ n

abbrev pub CommonStepIsLeast : Type 0
CommonStepIsLeast = (set : List SeriesValue) (grid : Grid) → All IsSeries set → common_grid set ≡ Ok grid → IsLeastMultiple (steps_of set) grid.step

-- all moments of a series lie in a grid
abbrev pub HoldsMoments : Grid → SeriesValue → Type 0
HoldsMoments grid s = (place : ℕ) → place < length s.values → (grid.start ≤ moment_at s place) × (moment_at s place < grid.end)

abbrev pub GridHoldsAllMoments : Type 0
GridHoldsAllMoments = (set : List SeriesValue) (grid : Grid) → All IsSeries set → common_grid set ≡ Ok grid → All (HoldsMoments grid) set

abbrev pub AgreeingSeriesKeepTheirGrid : Type 0
AgreeingSeriesKeepTheirGrid = (set : List SeriesValue) (grid : Grid) → 0 < length set → All IsSeries set → grid.step ≤ widest_step → All (λ s. has_grid grid s ≡ true) set → common_grid set ≡ Ok grid

abbrev pub AverageIsRoundedDown : Type 0
AverageIsRoundedDown = (values : List ℤ) (a : ℤ) → average values ≡ Some a → ((a *ℤ pos (length values)) ≤ℤ sum_of values) × (sum_of values <ℤ ((a +ℤ pos 1) *ℤ pos (length values)))

abbrev pub OwnGridStays : Type 0
OwnGridStays = (s : SeriesValue) (grid : Grid) → IsSeries s → has_grid grid s ≡ true → on_grid s grid ≡ s

abbrev pub FewValuesStay : Type 0
FewValuesStay = (most : ℕ) (s : SeriesValue) → length s.values ≤ most → thinned most s ≡ s
