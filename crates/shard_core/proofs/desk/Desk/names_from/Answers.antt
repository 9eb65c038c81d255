use Rattle.shard_core.specs.Halves.{both, desk_of}
use Rattle.shard_core.proofs.LookLemmas.{names_from}
use Rattle.shard_core.proofs.ReadingLemmas.{if_ok_more}
use Rattle.shard_core.proofs.desk.Desk.names_from.Goals as goal

pub returns : goal.returns
returns c =
    if_ok_more c.names_from.result _ _ c.names_from.ensures (λ names is files.
    names_from (both (desk_of c.args.self.now) files) c.args.least.now names.items c.len.ensures.legal c.len.ensures.rising c.args.self.now.listed is)
