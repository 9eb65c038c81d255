use Rattle.shard_core.specs.Halves.{desk_of, files_of}
use Rattle.shard_core.proofs.HalvesLemmas.{halves_put}
use Rattle.shard_core.proofs.shard.Shard.put.Goals as goal

pub invariant_of-self : goal.invariant_of-self
invariant_of-self g c = record {
  halves = halves_put (desk_of c.args.self.now.desk) (desk_of c.put.new.self) (files_of c.args.self.now.files) c.put.ensures.others c.args.self.now.halves;
}

pub returns-clause-put : goal.returns-clause-put
returns-clause-put g c = c.put.ensures.put (files_of c.args.self.now.files)

pub returns-clause-layouts : goal.returns-clause-layouts
returns-clause-layouts g c = c.put.ensures.others.layouts (files_of c.args.self.now.files)
