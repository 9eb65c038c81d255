use Rattle.metric_index.specs.Found.{IsFitted}
use Rattle.shard_core.proofs.CountLemmas.{counts_for, counts_looks}
use Rattle.shard_core.proofs.ReadingLemmas.{if_some_more}
use Rattle.shard_core.proofs.look_count.count_found.Goals as goal

pub returns-clause-states : goal.returns-clause-states
returns-clause-states c =
    if_some_more c.sum_found.result _ _ c.sum_found.ensures (λ count counts class s glob finds.
    counts_for class s (IsFitted glob) c.args.now c.args.from c.args.until c.args.found.now count finds counts)

pub returns-clause-shards : goal.returns-clause-shards
returns-clause-shards c =
    if_some_more c.sum_found.result _ _ c.sum_found.ensures (λ count counts shard glob finds.
    counts_looks shard (IsFitted glob) c.args.now c.args.from c.args.until c.args.found.now count finds counts)
