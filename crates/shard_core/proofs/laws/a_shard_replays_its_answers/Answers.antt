use Rattle.shard_core.proofs.LawLemmas.{answers_are_replayed}
use Rattle.shard_core.proofs.laws.a_shard_replays_its_answers.Goals as goal

pub returns : goal.returns
returns c = answers_are_replayed
