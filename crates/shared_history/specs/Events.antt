-- What is entered, and the entry that it makes.
use Rattle.std.specs.Prelude.{◌≡◌, ◌≢◌, ℕ, ◌<◌, ◌≤◌, ◌+◌, ◌==◌, ◌^◌, length, true, if◌then◌else◌}
use Rattle.carbon_history.specs.declared.entry.Entry.{Entry}
use Rattle.carbon_history.specs.declared.entry.Entry.TheVariants as entry
use Rattle.shared_history.specs.declared.event.Event.{Event}
use Rattle.shared_history.specs.declared.event.Event.TheVariants.{Put, Drain, Fault}
use Rattle.carbon_history.specs.Entries.{drains, is_about, is_drain}
use Rattle.shared_history.specs.Parts.{PassValue, TailValue, greatest_ask, own_entries}

-- the entry of a pass in a class
abbrev pub entry_of : ℕ → ℕ → Event → Entry
entry_of pass class (Put path time value end) = entry.Put pass path.now time value end
entry_of pass class (Drain path now) = entry.Drain pass path.now now
entry_of pass class Fault = entry.Fault pass class

-- the entry that this pass makes in the class of this tail
abbrev pub entry_by : PassValue → TailValue → Event → Entry
entry_by pass tail event = entry_of pass.number tail.class event

-- the number of the pass's next question: a first try has a new one, and a further try keeps it
abbrev pub next_number : PassValue → ℕ → ℕ
next_number pass try = if try == 1 then greatest_ask (own_entries pass) + 1 else greatest_ask (own_entries pass)

abbrev pub ask_by : PassValue → ℕ → ℕ → Entry
ask_by pass try now = entry.Ask pass.number (next_number pass try) try now

-- The entry is about the tail's class, the pass has room for it, and no drain comes before all earlier ones of the class are settled.
pub record MayEnter (pass : PassValue) (tail : TailValue) (entry : Entry) : Type 0 where
  pub about : is_about tail.class entry ≡ true
  pub room : length (own_entries pass) < 2 ^ 48
  pub settled : is_drain entry ≡ true → drains tail.list ≡ tail.settled

-- The try is one of three, a further one has a question to repeat, and the pass has room for the entry.
pub record MayAsk (pass : PassValue) (try : ℕ) : Type 0 where
  pub first : 1 ≤ try
  pub last : try ≤ 3
  pub asked : try ≢ 1 → 0 < greatest_ask (own_entries pass)
  pub room : length (own_entries pass) < 2 ^ 48
