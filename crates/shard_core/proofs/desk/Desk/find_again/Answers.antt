use Rattle.metric_index.specs.Found.{IsFitted}
use Rattle.shard_core.specs.Halves.{both, desk_of}
use Rattle.shard_core.proofs.LookLemmas.{found_in}
use Rattle.shard_core.proofs.ReadingLemmas.{if_ok_more}
use Rattle.shard_core.proofs.desk.Desk.find_again.Goals as goal

pub returns : goal.returns
returns c =
    if_ok_more c.find_again.result _ _ c.find_again.ensures (λ found finds files.
    found_in (both (desk_of c.args.self.now) files) (IsFitted c.args.searched.now.glob) found.items c.len.ensures.legal c.args.self.now.listed finds)
