-- What a link enters.
use Rattle.std.specs.Prelude.{◌≡◌, ℕ, List, ◌++◌, All}
use Rattle.carbon_history.specs.declared.entry.Entry.{Entry}
use Rattle.carbon_history.specs.declared.entry.Entry.TheVariants.{Ask, Fault}
use Rattle.shared_history.specs.Parts.{PassValue, own_entries}
use Rattle.http_front.specs.Origin.{Origin}

-- an entry of a pass that serves a link: a try of a question at a moment of the clock, or a disk's fault
abbrev pub IsEntryOf : Origin → ℕ → Entry → Type 0
IsEntryOf w number (Ask pass question try now) = (pass ≡ number) × w.moments now
IsEntryOf w number (Fault pass class) = pass ≡ number
IsEntryOf w number entry = ⊥

-- The pass made entries of this kind, and no other.
pub record MakesAsks (w : Origin) (old new : PassValue) : Type 0 where
  pub number : new.number ≡ old.number
  pub entries : List Entry
  pub once : own_entries new ≡ own_entries old ++ entries
  pub each : All (IsEntryOf w old.number) entries
