use Rattle.shard_core.specs.Halves.{files_of}
use Rattle.shard_core.proofs.ReadingLemmas.{if_ok_more}
use Rattle.shard_core.proofs.shard.Shard.look_at.Goals as goal

pub returns-clause-looks : goal.returns-clause-looks
returns-clause-looks g c = if_ok_more c.look_at.result _ _ c.look_at.ensures.looks (λ looked looks. looks (files_of c.args.self.now.files))

pub returns-clause-readable : goal.returns-clause-readable
returns-clause-readable g c = if_ok_more c.look_at.result _ _ c.look_at.ensures.readable (λ looked may. may (files_of c.args.self.now.files))
