use Rattle.shared_store.proofs.FreshLemmas.{started_fresh}
use Rattle.shared_store.proofs.laws.a_started_shard_is_fresh.Goals as goal

pub returns : goal.returns
returns g c = started_fresh
