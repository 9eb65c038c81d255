-- What a ring file shows.
use Rattle.std.specs.Prelude.{◌≡◌, ℕ, ℤ, List, [], length, Option}
use Rattle.outside_io.specs.Image.{Image}
use Rattle.ring_format.specs.Layout.{LayoutValue}
use Rattle.ring_archive.specs.Ring.{OnFile, ReadsAs, Rings, bare}
use Rattle.series_fetch.specs.Shown.{shown}
use Rattle.series_fetch.specs.Window.{HasBuckets}
use Rattle.series_fetch.specs.declared.range.Window.{Window}

-- The values of a window that the file of a path shows with nothing pending. Over every disk there are as many as the window has buckets,
-- and they show as those of some archives do; where the disk tells the file, of those that it reads as.
pub record FetchesFile (known : Option Image) (name path : List ℕ) (layout : LayoutValue) (window : Window) (values : List (Option ℤ)) : Type 0 where
  pub count : HasBuckets layout window (length values)
  pub some : (rings : Rings) × (values ≡ shown layout rings [] window)
  pub told : OnFile known name (λ file. (rings : Rings) → ReadsAs (bare path layout) file rings → values ≡ shown layout rings [] window)
