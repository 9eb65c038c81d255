use Rattle.shard_set.proofs.StateLemmas.{opens_run}
use Rattle.shard_set.proofs.laws.started_shards_open_a_run.Goals as goal

pub returns : goal.returns
returns g c = opens_run
