use Rattle.shard_set.proofs.StateLemmas.{all_ready}
use Rattle.shard_set.proofs.laws.started_shards_stand_for_the_opening.Goals as goal

pub returns : goal.returns
returns g c = all_ready
