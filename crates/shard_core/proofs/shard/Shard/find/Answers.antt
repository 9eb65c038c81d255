use Rattle.shard_core.specs.Halves.{files_of}
use Rattle.shard_core.proofs.ReadingLemmas.{if_ok_more}
use Rattle.shard_core.proofs.shard.Shard.find.Goals as goal

pub returns : goal.returns
returns g c = if_ok_more c.find.result _ _ c.find.ensures (λ it is. is (files_of c.args.self.now.files))
