-- The buckets of an archive that a question from a moment until a moment, asked at the moment `now`, is about.
use Rattle.std.specs.Prelude.{◌≡◌, ℕ, ◌+◌, ◌-◌, ◌*◌, ◌^◌, ◌%◌, ◌==◌, ◌<◌, Bool, ◌||◌, nat_lt, nat_le, List, position, slice_get, Option, Some, None, IfSome, if◌then◌else◌, max, min}
use Rattle.std.specs.Option.{option_map_or}
use Rattle.ring_format.specs.declared.archive.Archive.{Archive}
use Rattle.ring_format.specs.Layout.{LayoutValue, retention_of}
use Rattle.ring_format.specs.Head.{last_retention}
use Rattle.series_fetch.specs.declared.range.Window.{Window}
use Rattle.series_fetch.specs.declared.range.Window.TheVariants.{Empty, Range}

-- nothing is shown of the future, nor of what is older than the longest retention
abbrev pub is_outside : List Archive → ℕ → ℕ → ℕ → Bool
is_outside archives now from until = nat_lt now from || nat_lt (until + last_retention archives) now

-- both ends are brought into the longest retention before now
abbrev pub clipped_from : List Archive → ℕ → ℕ → ℕ
clipped_from archives now from = max from (now - last_retention archives)

abbrev pub clipped_until : ℕ → ℕ → ℕ
clipped_until now until = min until now

-- the first archive that reaches back to a moment
abbrev pub archive_reaching : List Archive → ℕ → ℕ → Option ℕ
archive_reaching archives now from = position (λ archive. nat_le now (from + retention_of archive)) archives

-- the first bucket that begins after a moment
abbrev pub bucket_after : ℕ → ℕ → ℕ
bucket_after step time = time - time % step + step

-- the end of the buckets that begin after `from` and at or before `until`; there is at least one
abbrev pub end_after : ℕ → ℕ → ℕ → ℕ
end_after step from until =
    if bucket_after step from == bucket_after step until then bucket_after step from + step else bucket_after step until

-- the buckets of archive `i` from after a moment to another
abbrev pub range_of : List Archive → ℕ → ℕ → ℕ → Window
range_of archives from until i =
    option_map_or (λ archive. Range i (bucket_after archive.step from) (end_after archive.step from until)) (slice_get archives i) Empty

-- the archive, its first bucket and the end, which is not among them; empty where nothing is shown
abbrev pub window : LayoutValue → ℕ → ℕ → ℕ → Window
window layout now from until =
    if is_outside layout.archives now from until then Empty else
    option_map_or (λ i. range_of layout.archives (clipped_from layout.archives now from) (clipped_until now until) i)
    (archive_reaching layout.archives now (clipped_from layout.archives now from)) Empty

-- so many buckets of a step, from a first one to an end, all of which fit 32 bits
pub record IsStretch (first end step count : ℕ) : Type 0 where
  pub whole : first % step ≡ 0
  pub some : 0 < count
  pub ends : end ≡ first + count * step
  pub small : end < 2 ^ 32

-- the same of an archive, where it is there
abbrev pub IsStretchOf : Option Archive → ℕ → ℕ → Type 0
IsStretchOf None first end = ⊥
IsStretchOf (Some archive) first end = (count : ℕ) × IsStretch first end archive.step count

-- a window that lies in an archive of the layout
abbrev pub IsWindow : LayoutValue → Window → Type 0
IsWindow layout Empty = Unit {0}
IsWindow layout (Range i first end) = IsStretchOf (slice_get layout.archives i) first end

-- it has so many buckets, from its first one to its end
abbrev pub HasBuckets : LayoutValue → Window → ℕ → Type 0
HasBuckets layout Empty count = count ≡ 0
HasBuckets layout (Range i first end) count =
    IfSome (slice_get layout.archives i) (λ archive. (end ≡ first + count * archive.step) × (end < 2 ^ 32))
