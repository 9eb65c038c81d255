use Rattle.shard_set.proofs.OpeningLemmas.{not_started}
use Rattle.shard_set.proofs.opening.start_one.Goals as goal

pub returns-in-Err-clause-refused : goal.returns-in-Err-clause-refused
returns-in-Err-clause-refused g c = not_started g.D.Disk c.args.class c.args.disk
