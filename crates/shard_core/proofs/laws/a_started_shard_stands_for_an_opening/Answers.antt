use Rattle.shard_core.proofs.LawLemmas.{started_holds}
use Rattle.shard_core.proofs.laws.a_started_shard_stands_for_an_opening.Goals as goal

pub returns : goal.returns
returns g c = started_holds
