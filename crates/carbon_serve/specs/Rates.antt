-- How often something may be done in a second.
use Rattle.std.specs.Prelude.{◌==◌, ◌||◌, ℕ, nat_le, nat_lt, Bool}

-- a bound; 0 is none
abbrev pub is_bounded : ℕ → Bool
is_bounded most = nat_lt 0 most

-- so much was done in a second, of which this is the most
abbrev pub is_kept : ℕ → ℕ → Bool
is_kept most done = (most == 0) || nat_le done most

-- and may be done once more
abbrev pub may_more : ℕ → ℕ → Bool
may_more most done = (most == 0) || nat_lt done most
