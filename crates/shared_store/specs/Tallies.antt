-- How many entries of each kind a history has.
use Rattle.std.specs.Prelude.{◌+◌, ◌-◌, ◌^◌, ℕ, min, Bool, true, false, List, count_by, if◌then◌else◌}
use Rattle.carbon_history.specs.declared.entry.Entry.{Entry}
use Rattle.carbon_history.specs.declared.entry.Entry.TheVariants.{Put, Drain, Ask, Fault}
use Rattle.carbon_history.specs.declared.entry.PutEnd.{PutEnd}
use Rattle.carbon_history.specs.declared.entry.PutEnd.TheVariants.{Stored, Replaced, Full}
use Rattle.carbon_history.specs.Entries.{is_drain}
use Rattle.shared_store.specs.declared.tally.Tally.{Tally}

-- whether a disk failed
abbrev pub is_fault : Entry → Bool
is_fault (Put pass path time value end) = false
is_fault (Drain pass path now) = false
is_fault (Ask pass number try now) = false
is_fault (Fault pass class) = true

-- whether a point was put, and so
abbrev pub is_end : PutEnd → PutEnd → Bool
is_end Stored Stored = true
is_end Stored Replaced = false
is_end Stored Full = false
is_end Replaced Stored = false
is_end Replaced Replaced = true
is_end Replaced Full = false
is_end Full Stored = false
is_end Full Replaced = false
is_end Full Full = true

abbrev pub is_put : PutEnd → Entry → Bool
is_put wanted (Put pass path time value end) = is_end wanted end
is_put wanted (Drain pass path now) = false
is_put wanted (Ask pass number try now) = false
is_put wanted (Fault pass class) = false

-- a count in 64 bits, which stands still at its end
abbrev pub capped : ℕ → ℕ
capped n = min n (2 ^ 64 - 1)

-- how many entries of each kind a history has
unfoldable pub tally_of : List Entry → Tally
tally_of entries = record {
  stored = capped (count_by (is_put Stored) entries);
  replaced = capped (count_by (is_put Replaced) entries);
  full = capped (count_by (is_put Full) entries);
  drains = capped (count_by is_drain entries);
}

-- one more where it is so
abbrev pub counted : ℕ → Bool → ℕ
counted n is = if is then capped (n + 1) else n

-- the counts after an entry more
abbrev pub tally_with : Tally → Entry → Tally
tally_with tally entry = record {
  stored = counted tally.stored (is_put Stored entry);
  replaced = counted tally.replaced (is_put Replaced entry);
  full = counted tally.full (is_put Full entry);
  drains = counted tally.drains (is_drain entry);
}
