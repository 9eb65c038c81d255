use Rattle.ring_writer.proofs.NextLemmas.{drain_awaits, new_awaits, ring_awaits}
use Rattle.ring_writer.proofs.laws.every_drain_may_begin.Goals as goal

pub returns-clause-over : goal.returns-clause-over
returns-clause-over c = ring_awaits

pub returns-clause-new : goal.returns-clause-new
returns-clause-new c = new_awaits

pub returns-clause-shelf : goal.returns-clause-shelf
returns-clause-shelf c = drain_awaits
