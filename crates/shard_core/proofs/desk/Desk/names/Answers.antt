use Rattle.shard_core.specs.Halves.{both, desk_of}
use Rattle.shard_core.proofs.LookLemmas.{names_are}
use Rattle.shard_core.proofs.ReadingLemmas.{if_ok_more}
use Rattle.shard_core.proofs.desk.Desk.names.Goals as goal

pub returns : goal.returns
returns c = if_ok_more c.names.result _ _ c.names.ensures (λ names is files. names_are (both (desk_of c.args.self.now) files) names.items c.len.ensures.legal c.len.ensures.rising c.args.self.now.listed is)
