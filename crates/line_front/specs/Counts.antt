-- How many lines a link or a script had of each kind.
use Rattle.std.specs.Prelude.{ℕ, zero, suc, ◌+◌, ◌-◌, ◌^◌, min}
use Rattle.carbon_history.specs.declared.entry.PutEnd.{PutEnd}
use Rattle.metric_line.specs.declared.fault.LineFault.{LineFault}
use Rattle.metric_line.specs.declared.fault.LineFault.TheVariants.{Fields, Path, Value, Time, NoMemory}
use Rattle.line_front.specs.declared.counts.Counts.{Counts}
use Rattle.shared_store.specs.declared.put_counts.PutCounts.{PutCounts}
use Rattle.carbon_history.specs.declared.entry.PutEnd.TheVariants.{Stored, Replaced, Full}

abbrev pub no_counts : Counts
no_counts = record { stored = 0; replaced = 0; full = 0; fields = 0; path = 0; value = 0; time = 0; long = 0 }

-- a count that rises by one, and stands still at 2^64 - 1
abbrev pub raised : ℕ → ℕ
raised n = min (n + 1) (2 ^ 64 - 1)

-- the counts after a put that ended so
abbrev pub counted : Counts → PutEnd → Counts
counted c Stored = record c { stored = raised c.stored }
counted c Replaced = record c { replaced = raised c.replaced }
counted c Full = record c { full = raised c.full }

-- the counts after a metric line that was refused for this reason; want of memory is no reason
abbrev pub refused : Counts → LineFault → Counts
refused c (Fields n) = record c { fields = raised c.fields }
refused c (Path fault) = record c { path = raised c.path }
refused c (Value fault) = record c { value = raised c.value }
refused c (Time fault) = record c { time = raised c.time }
refused c NoMemory = c

-- the counts after a line that was too long
abbrev pub overlong : Counts → Counts
overlong c = record c { long = raised c.long }

-- a count that rises by one so often
abbrev pub added : ℕ → ℕ → ℕ
added count zero = count
added count (suc n) = added (raised count) n

-- the counts after so many puts of each end
abbrev pub counted_puts : Counts → PutCounts → Counts
counted_puts c puts =
    record c { stored = added c.stored puts.stored; replaced = added c.replaced puts.replaced; full = added c.full puts.full }
