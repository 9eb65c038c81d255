-- The times whose points go to an archive.
use Rattle.std.specs.Prelude.{ℕ, ◌-◌, ◌<◌, ◌≤◌, ◌^◌, ◌&&◌, Bool, nat_le, nat_lt, List, get_or}
use Rattle.ring_format.specs.Layout.{retention_of}
use Rattle.ring_format.specs.declared.archive.Archive.{Archive}
use Rattle.archive_update.specs.declared.own.HomeSpan.{HomeSpan}

-- a time is from the first one on, and before the other
abbrev pub is_within : ℕ → HomeSpan → Bool
is_within time span = nat_le span.since time && nat_lt time span.until

-- This time is the oldest that one of the first so many archives reaches back to: none of them reaches back further,
-- and one reaches back to each time from it on.
pub record IsOldestOf (archives : List Archive) (count now oldest : ℕ) : Type 0 where
  pub least : (k : ℕ) (d : Archive) → k < count → oldest ≤ now - retention_of (get_or archives k d)
  pub reached : (time : ℕ) → time < 2 ^ 64 - 1 → ((k : ℕ) (d : Archive) → k < count → time < now - retention_of (get_or archives k d)) → time < oldest
