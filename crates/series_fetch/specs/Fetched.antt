-- What a fetch gives.
use Rattle.std.specs.Prelude.{◌≡◌, ℕ, ℤ, List, Option, length}
use Rattle.outside_io.specs.Image.{Image}
use Rattle.ring_format.specs.Patch.{PatchValue}
use Rattle.ring_archive.specs.Ring.{ReadsAs, Rings}
use Rattle.ring_archive.specs.View.{OnRing}
use Rattle.ring_archive.specs.declared.view.RingView.{RingView}
use Rattle.series_fetch.specs.declared.range.Window.{Window}
use Rattle.series_fetch.specs.Window.{HasBuckets}
use Rattle.series_fetch.specs.Shown.{shown}

-- The values of a window, with pending points laid over what the file under the patch has. Over every disk there are as many as the window has
-- buckets, and the pending points show as they do over some archives; where the disk tells the file, over those that it reads as.
pub record Fetches (view : RingView) (patch : PatchValue) (known : Option Image) (pending : List (ℕ × ℤ)) (window : Window) (values : List (Option ℤ)) : Type 0 where
  pub count : HasBuckets view.layout window (length values)
  pub some : (rings : Rings) × (values ≡ shown view.layout rings pending window)
  pub told : OnRing view patch.fresh known (λ file. (rings : Rings) → ReadsAs patch file rings → values ≡ shown view.layout rings pending window)
