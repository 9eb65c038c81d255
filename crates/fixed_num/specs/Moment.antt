-- Moments: numbers of seconds since the Unix epoch.
use Rattle.std.specs.Prelude.{ℕ, Bool, ◌&&◌, nat_le, Option, Some, None, if◌then◌else◌}

-- the moments that carbon takes: 1971 to 2096
abbrev pub least_moment : ℕ
least_moment = 31536000

abbrev pub greatest_moment : ℕ
greatest_moment = 4000000000

-- whether a number is a legal moment
abbrev pub is_moment : ℕ → Bool
is_moment t = nat_le least_moment t && nat_le t greatest_moment

-- a number as a legal moment, where it is one
abbrev pub legal_moment : ℕ → Option ℕ
legal_moment t = if is_moment t then Some t else None
