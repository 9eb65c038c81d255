-- Buckets of archives, and of points one after another the latest in each.
use Rattle.std.specs.Prelude.{◌≡◌, ℕ, ℤ, ◌%◌, ◌==◌, ◌<◌, ◌≤◌, All, List, [], ◌∷◌, length, if◌then◌else◌}
use Rattle.archive_update.specs.Laid.{IsBucketOf}

-- a bucket of an archive with this step, up to the last legal moment
pub record IsShown (step bucket : ℕ) : Type 0 where
  pub multiple : IsBucketOf step bucket
  pub most : bucket ≤ 4000000000

-- some such buckets, at least one
pub record AreShown (step : ℕ) (buckets : List ℕ) : Type 0 where
  pub some : 0 < length buckets
  pub each : All (IsShown step) buckets

-- the bucket of a legal moment: no multiple of the step up to 365 days is above it
pub record IsOwn (step bucket : ℕ) : Type 0 where
  pub shown : IsShown step bucket
  pub reaches : (multiple : ℕ) → multiple % step ≡ 0 → multiple ≤ 31536000 → multiple ≤ bucket

-- writes with a later one, in place of the last if that is of the same bucket
abbrev pub with_latest : List (ℕ × ℤ) → ℕ × ℤ → List (ℕ × ℤ)
with_latest [] w = w ∷ []
with_latest (x ∷ []) w = if x.0 == w.0 then w ∷ [] else x ∷ w ∷ []
with_latest (x ∷ y ∷ rest) w = x ∷ with_latest (y ∷ rest) w

-- buckets with a later one, unless it is the last of them
abbrev pub with_bucket : List ℕ → ℕ → List ℕ
with_bucket [] bucket = bucket ∷ []
with_bucket (x ∷ []) bucket = if bucket == x then x ∷ [] else x ∷ bucket ∷ []
with_bucket (x ∷ y ∷ rest) bucket = x ∷ with_bucket (y ∷ rest) bucket
