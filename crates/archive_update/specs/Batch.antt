-- The batch: what a drain of points makes of the archives of a metric. An archive is a map from buckets to values.
use Rattle.std.specs.Prelude.{◌≡◌, ℕ, zero, suc, ◌+◌, ◌-◌, ◌*◌, ◌/◌, ◌%◌, ◌==◌, ℤ, Bool, false, nat_le, List, [], ◌∷◌, length, map, filter, position, slice_get, unwrap_or, option_map, Option, Some, None, nat_eq, All, if◌then◌else◌}
use Rattle.std.specs.List.{range_with_len, filter_map, fold, dedup}
use Rattle.ring_format.specs.declared.archive.Archive.{Archive}
use Rattle.ring_format.specs.Layout.{LayoutValue, retention_of}
use Rattle.ring_archive.specs.Ring.{Rings}
use Rattle.rollup.specs.Rollup.{rolled, is_enough}

-- the value that an archive has for each bucket
abbrev pub Values : Type 0
Values = ℕ → Option ℤ

-- ---- writes

-- A value written under a bucket. Each bucket that shares its place in the ring, a retention or more away, is forgotten.
abbrev pub written : ℕ → Values → ℕ × ℤ → Values
written retention values write bucket =
    if bucket == write.0 then Some write.1 else (if bucket % retention == write.0 % retention then None else values bucket)

-- values written in order
abbrev pub all_written : ℕ → Values → List (ℕ × ℤ) → Values
all_written retention values writes = fold (written retention) values writes

-- archive `i` with these values, and the others as they are
abbrev pub with_values : Rings → ℕ → Values → Rings
with_values rings i values = λ k. if k == i then values else rings k

-- values written into archive `i` of these
abbrev pub with_writes : List Archive → Rings → ℕ → List (ℕ × ℤ) → Rings
with_writes archives rings i writes =
    with_values rings i (all_written (unwrap_or (option_map retention_of (slice_get archives i)) 0) (rings i) writes)

-- ---- which points go where

-- the first archive that reaches back far enough from `now`: none for a point that is older than all retentions; the finest for one of the future
abbrev pub archive_for : List Archive → ℕ → ℕ → Option ℕ
archive_for archives now time = position (λ archive. nat_le now (time + retention_of archive)) archives

-- none of these points goes to an archive: all are older than what the archives reach back to
abbrev pub HaveNoHome : List Archive → ℕ → List (ℕ × ℤ) → Type 0
HaveNoHome archives now points = All (λ p. archive_for archives now p.0 ≡ None) points

abbrev pub is_home : ℕ → Option ℕ → Bool
is_home i None = false
is_home i (Some k) = k == i

-- the points that go to archive `i`
abbrev pub points_home : List Archive → ℕ → ℕ → List (ℕ × ℤ) → List (ℕ × ℤ)
points_home archives now i points = filter (λ p. is_home i (archive_for archives now p.0)) points

-- the bucket of a moment: the last multiple of the step that is not after it
abbrev pub bucket_of : ℕ → ℕ → ℕ
bucket_of step time = time - time % step

-- of points in rising time the latest in each bucket, under its bucket
abbrev pub latest_of_each : ℕ → List (ℕ × ℤ) → List (ℕ × ℤ)
latest_of_each step [] = []
latest_of_each step (p ∷ []) = (bucket_of step p.0, p.1) ∷ []
latest_of_each step (p ∷ q ∷ rest) =
    if bucket_of step p.0 == bucket_of step q.0 then latest_of_each step (q ∷ rest) else (bucket_of step p.0, p.1) ∷ latest_of_each step (q ∷ rest)

abbrev pub step_of : List Archive → ℕ → ℕ
step_of archives i = unwrap_or (option_map (λ archive. archive.step) (slice_get archives i)) 0

-- what the points write into their own archive `i`
unfoldable pub bucket_writes : List Archive → ℕ → ℕ → List (ℕ × ℤ) → List (ℕ × ℤ)
bucket_writes archives now i points = latest_of_each (step_of archives i) (points_home archives now i points)

-- ---- from a finer archive to the next coarser one

abbrev pub itself : Option ℤ → Option ℤ
itself value = value

-- the known values of a finer archive in a bucket of a coarser one, in order of time
unfoldable pub known_in : Values → ℕ → ℕ → ℕ → List ℤ
known_in finer step places bucket = filter_map itself (map (λ k. finer (bucket + k * step)) (range_with_len 0 places))

-- the rollup of so many places of which these are known, where enough are
unfoldable pub rolled_from : LayoutValue → List ℤ → ℕ → Option ℤ
rolled_from layout known places =
    if is_enough (length known) places layout.factor then rolled layout.method known places else None

-- the value that a bucket of archive `i + 1` gets from archive `i`
unfoldable pub value_from_finer : LayoutValue → Rings → ℕ → ℕ → Option ℤ
value_from_finer layout rings i bucket =
    rolled_from layout
    (known_in (rings i) (step_of layout.archives i) (step_of layout.archives (i + 1) / step_of layout.archives i) bucket)
    (step_of layout.archives (i + 1) / step_of layout.archives i)

-- what these buckets of archive `i + 1` get
unfoldable pub level_writes : LayoutValue → Rings → ℕ → List ℕ → List (ℕ × ℤ)
level_writes layout rings i buckets = filter_map (λ bucket. option_map (λ value. (bucket, value)) (value_from_finer layout rings i bucket)) buckets

-- the buckets of archive `i` that hold one of these writes, each once, in rising order
unfoldable pub buckets_of_writes : List Archive → ℕ → List (ℕ × ℤ) → List ℕ
buckets_of_writes archives i writes = dedup nat_eq (map (λ write. bucket_of (step_of archives i) write.0) writes)

-- From archive `i` on, each of the next `left` coarser archives gets what the one before it gives the buckets that hold one of the writes;
-- where nothing is written, it ends.
abbrev pub rolled_up : LayoutValue → List (ℕ × ℤ) → Rings → ℕ → ℕ → Rings
rolled_up layout own rings i zero = rings
rolled_up layout own rings i (suc left) =
    if length (level_writes layout rings i (buckets_of_writes layout.archives (i + 1) own)) == 0 then rings else
    rolled_up layout own
    (with_writes layout.archives rings (i + 1) (level_writes layout rings i (buckets_of_writes layout.archives (i + 1) own)))
    (i + 1) left

-- ---- the batch

-- the points of archive `i` are written into it, and rolled up into the coarser ones
abbrev pub with_own : LayoutValue → ℕ → List (ℕ × ℤ) → Rings → ℕ → Rings
with_own layout now points rings i =
    rolled_up layout (bucket_writes layout.archives now i points)
    (with_writes layout.archives rings i (bucket_writes layout.archives now i points)) i (length layout.archives - (i + 1))

-- the points of the first `n` archives, the finest first
abbrev pub batch_of_first : LayoutValue → ℕ → List (ℕ × ℤ) → Rings → ℕ → Rings
batch_of_first layout now points rings zero = rings
batch_of_first layout now points rings (suc n) = with_own layout now points (batch_of_first layout now points rings n) n

-- What a drain of these points, in rising time, makes of the archives at the moment `now`.
abbrev pub batch : LayoutValue → ℕ → List (ℕ × ℤ) → Rings → Rings
batch layout now points rings = batch_of_first layout now points rings (length layout.archives)
