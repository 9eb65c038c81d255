use Rattle.shard_core.specs.Halves.{files_of}
use Rattle.shard_core.proofs.ReadingLemmas.{if_ok_more}
use Rattle.shard_core.proofs.shard.Shard.count_looks.Goals as goal

pub returns : goal.returns
returns g c = if_ok_more c.count_looks.result _ _ c.count_looks.ensures (λ it is. is (files_of c.args.self.now.files))
