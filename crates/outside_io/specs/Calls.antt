-- Which calls of one kind are to fail, by their numbers from 1 on.
use Rattle.std.specs.Prelude.{ℕ, Bool, ◌==◌, List}
use Rattle.std.specs.List.{list_any}
use Rattle.outside_io.specs.Faults.{raised}

-- the numbers of the calls that fail, and the number of the next call, which stays at 2^64 - 1
pub record Calls : Type 0 where
  pub failing : List ℕ
  pub next : ℕ

abbrev pub fails_next : Calls → Bool
fails_next calls = list_any (λ number. number == calls.next) calls.failing

abbrev pub after_call : Calls → Calls
after_call calls = record calls { next = raised calls.next }

-- the calls with these numbers fail, from the next one on
abbrev pub listed_calls : List ℕ → Calls
listed_calls failing = record { failing = failing; next = 1 }
