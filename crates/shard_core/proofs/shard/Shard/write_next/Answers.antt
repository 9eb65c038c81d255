use Rattle.shard_core.specs.Halves.{desk_of}
use Rattle.shard_core.proofs.shard.Shard.write_next.Goals as goal

pub invariant_of-self : goal.invariant_of-self
invariant_of-self g c = record { halves = c.write_next.ensures.halves (desk_of c.args.self.now.desk) c.args.self.now.halves }

pub returns-clause-writes : goal.returns-clause-writes
returns-clause-writes g c = c.write_next.ensures.writes (desk_of c.args.self.now.desk)

pub returns-clause-stays : goal.returns-clause-stays
returns-clause-stays g c = c.write_next.ensures.stays (desk_of c.args.self.now.desk) c.args.self.now.halves
