-- The values that are shown in the buckets of a window: of pending points, and else of the archives.
use Rattle.std.specs.Prelude.{ℕ, ℤ, ◌+◌, ◌-◌, ◌*◌, ◌/◌, ◌%◌, ◌==◌, List, [], ◌∷◌, length, map, filter, slice_get, Option, if◌then◌else◌}
use Rattle.std.specs.List.{range_with_len}
use Rattle.std.specs.Option.{option_map_or}
use Rattle.ring_format.specs.Layout.{LayoutValue}
use Rattle.ring_archive.specs.Ring.{Rings}
use Rattle.rollup.specs.Rollup.{rolled}
use Rattle.series_fetch.specs.declared.range.Window.{Window}
use Rattle.series_fetch.specs.declared.range.Window.TheVariants.{Empty, Range}

-- the values of the pending points in a bucket, in order of time
abbrev pub values_in : ℕ → List (ℕ × ℤ) → ℕ → List ℤ
values_in step points bucket = map (λ p. p.1) (filter (λ p. p.0 - p.0 % step == bucket) points)

-- What pending values show in a bucket: in the finest archive the latest, and in a coarser one their rollup.
unfoldable pub shown_of_pending : LayoutValue → ℕ → List ℤ → Option ℤ
shown_of_pending layout i values =
    if i == 0 then slice_get values (length values - 1) else rolled layout.method values (length values)

-- a bucket without pending points shows what the archive has
abbrev pub shown_of : LayoutValue → Rings → ℕ → ℕ → List ℤ → Option ℤ
shown_of layout rings i bucket [] = rings i bucket
shown_of layout rings i bucket (v ∷ vs) = shown_of_pending layout i (v ∷ vs)

-- the value that is shown in a bucket of archive `i`, whose step this is
unfoldable pub shown_in : LayoutValue → Rings → List (ℕ × ℤ) → ℕ → ℕ → ℕ → Option ℤ
shown_in layout rings points i step bucket = shown_of layout rings i bucket (values_in step points bucket)

-- the values of so many buckets from a first one on
unfoldable pub shown_from : LayoutValue → Rings → List (ℕ × ℤ) → ℕ → ℕ → ℕ → ℕ → List (Option ℤ)
shown_from layout rings points i step first count =
    map (λ k. shown_in layout rings points i step (first + k * step)) (range_with_len 0 count)

-- The values of a window's buckets, in order, of a metric with these archives and these pending points in rising time.
abbrev pub shown : LayoutValue → Rings → List (ℕ × ℤ) → Window → List (Option ℤ)
shown layout rings points Empty = []
shown layout rings points (Range i first end) =
    option_map_or (λ archive. shown_from layout rings points i archive.step first ((end - first) / archive.step)) (slice_get layout.archives i) []
