use Rattle.shard_core.proofs.ReadLemmas.{may_read_after_writes, may_read_later}
use Rattle.shard_core.proofs.laws.what_was_looked_at_may_be_read_later.Goals as goal

pub returns-clause-layouts : goal.returns-clause-layouts
returns-clause-layouts c = may_read_later

pub returns-clause-writes : goal.returns-clause-writes
returns-clause-writes c = may_read_after_writes
