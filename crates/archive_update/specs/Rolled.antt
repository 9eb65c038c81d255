-- Values rolled up into coarser archives.
use Rattle.std.specs.Prelude.{◌≡◌, ℕ, ℤ, ◌+◌, ◌-◌, ◌*◌, ◌/◌, ◌%◌, ◌==◌, ◌<◌, ◌≤◌, Bool, true, false, List, [], ◌∷◌, length, max, Option, Some, None, drop, take}
use Rattle.std.specs.List.{filter_map}
use Rattle.ring_format.specs.Layout.{LayoutValue}
use Rattle.ring_format.specs.Patch.{PatchValue}
use Rattle.outside_io.specs.Image.{Image}
use Rattle.ring_archive.specs.Ring.{ReadsAs, Rings, values_from}
use Rattle.ring_archive.specs.View.{IsBased, OnRing}
use Rattle.ring_archive.specs.declared.view.BasedArchive.{BasedArchive}
use Rattle.ring_archive.specs.declared.view.RingView.{RingView}
use Rattle.archive_update.specs.Batch.{batch_of_first, buckets_of_writes, itself, level_writes, bucket_writes, rolled_up, step_of, with_own, with_writes}

-- the known of so many values from a place on
unfoldable pub known_from : List (Option ℤ) → ℕ → ℕ → List ℤ
known_from values at places = filter_map itself (take places (drop at values))

-- how many places of archive `i` one of archive `i + 1` covers
abbrev pub places_in : LayoutValue → ℕ → ℕ
places_in layout i = step_of layout.archives (i + 1) / step_of layout.archives i

-- these are the values of archive `i` in so many buckets of archive `i + 1`, from a first one on
abbrev pub HoldsWindow : LayoutValue → PatchValue → ℕ → ℕ → ℕ → List (Option ℤ) → List ℕ → Type 0
HoldsWindow layout patch i first count values file = values ≡ values_from patch file i first (count * places_in layout i)

-- a window of buckets that begins with one of archive `i + 1`, with their values of archive `i` in the file under the patch
pub record IsRead (view : RingView) (patch : PatchValue) (known : Option Image) (i first count : ℕ) (values : List (Option ℤ)) : Type 0 where
  pub exact : first % step_of view.layout.archives (i + 1) ≡ 0
  pub held : OnRing view patch.fresh known (HoldsWindow view.layout patch i first count values)

-- archive `i` is not the coarsest of the layout
pub record HasCoarser (layout : LayoutValue) (i : ℕ) : Type 0 where
  pub archive : i + 1 < length layout.archives
  pub few : i ≤ 24

-- an archive that is not the coarsest of the layout, with the base that it has in the file under the patch
pub record IsFiner (view : RingView) (patch : PatchValue) (known : Option Image) (finer : BasedArchive) : Type 0 where
  pub coarser : HasCoarser view.layout finer.archive
  pub based : IsBased view patch known finer.archive finer.base

-- a bucket is one of so many, a step apart
abbrev pub IsInWindow : ℕ → ℕ → ℕ → ℕ → Type 0
IsInWindow step first count bucket = (first ≤ bucket) × ((bucket - first) / step < count)

-- the most values that are read at once, but for those of one bucket
abbrev pub most_values : ℕ
most_values = 65536

-- so many buckets of archive `i + 1` are near enough to be read at once from archive `i`: the last lies less than
-- so many steps behind the first, or there is but one
abbrev pub AreNear : LayoutValue → ℕ → ℕ → Type 0
AreNear layout i count = count ≤ max 1 (most_values / places_in layout i)

-- a bucket with its value, where it has one
abbrev pub rolled_write : ℕ → Option ℤ → List (ℕ × ℤ)
rolled_write bucket None = []
rolled_write bucket (Some value) = (bucket, value) ∷ []

-- what archive `i` gives archive `i + 1` for these writes
abbrev pub next_writes : LayoutValue → List (ℕ × ℤ) → Rings → ℕ → List (ℕ × ℤ)
next_writes layout own rings i = level_writes layout rings i (buckets_of_writes layout.archives (i + 1) own)

-- a bucket that is in reach of a coarser archive with this step
abbrev pub IsReached : ℕ → ℕ → Type 0
IsReached step bucket = (step ≤ bucket) × (bucket ≤ 4000000000)

-- archive `i + 1` has got something from archive `i`, or there is nothing to get
abbrev pub LevelGives : LayoutValue → List (ℕ × ℤ) → Rings → PatchValue → ℕ → List ℕ → Bool → Type 0
LevelGives layout own rings new i file true =
    ((length (next_writes layout own rings i) == 0) ≡ false) × ReadsAs new file (with_writes layout.archives rings (i + 1) (next_writes layout own rings i))
LevelGives layout own rings new i file false = ((length (next_writes layout own rings i) == 0) ≡ true) × ReadsAs new file rings

abbrev pub Level : LayoutValue → List (ℕ × ℤ) → PatchValue → PatchValue → ℕ → Bool → List ℕ → Type 0
Level layout own old new i more file = (rings : Rings) → ReadsAs old file rings → LevelGives layout own rings new i file more

-- the archives as far as they are rolled up: from archive `i` to archive `k`
pub record IsReachedAt (layout : LayoutValue) (own : List (ℕ × ℤ)) (rings : Rings) (new : PatchValue) (i k : ℕ) (file : List ℕ) : Type 0 where
  pub middle : Rings
  pub reads : ReadsAs new file middle
  pub same : rolled_up layout own rings i (length layout.archives - (i + 1)) ≡ rolled_up layout own middle k (length layout.archives - (k + 1))

abbrev pub RollsTo : LayoutValue → List (ℕ × ℤ) → PatchValue → PatchValue → ℕ → ℕ → List ℕ → Type 0
RollsTo layout own old new i k file = (rings : Rings) → ReadsAs old file rings → IsReachedAt layout own rings new i k file

-- all coarser archives are rolled up from archive `i` on
abbrev pub RollsUp : LayoutValue → List (ℕ × ℤ) → PatchValue → PatchValue → ℕ → List ℕ → Type 0
RollsUp layout own old new i file = (rings : Rings) → ReadsAs old file rings → ReadsAs new file (rolled_up layout own rings i (length layout.archives - (i + 1)))

-- the points of archive `i` are written and rolled up
abbrev pub Plans : LayoutValue → ℕ → List (ℕ × ℤ) → PatchValue → PatchValue → ℕ → List ℕ → Type 0
Plans layout now points old new i file = (rings : Rings) → ReadsAs old file rings → ReadsAs new file (with_own layout now points rings i)

-- the points of the first `n` archives are
abbrev pub PlansFirst : LayoutValue → ℕ → List (ℕ × ℤ) → PatchValue → PatchValue → ℕ → List ℕ → Type 0
PlansFirst layout now points old new n file = (rings : Rings) → ReadsAs old file rings → ReadsAs new file (batch_of_first layout now points rings n)

-- cells are laid exactly where there are writes
pub record LaysIf (old new : PatchValue) (writes : List (ℕ × ℤ)) : Type 0 where
  pub filled : new.cells ≡ [] → writes ≡ []
  pub untouched : writes ≡ [] → new ≡ old

-- the first `n` archives are the home of no point
abbrev pub HasNoOwn : LayoutValue → ℕ → List (ℕ × ℤ) → ℕ → Type 0
HasNoOwn layout now points n = (i : ℕ) → i < n → bucket_writes layout.archives now i points ≡ []
