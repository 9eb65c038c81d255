use Rattle.std.proofs.Common.{subst, sym}
use Rattle.point_cache.specs.Pending.{Cache}
use Rattle.shard_core.specs.Table.{Lists}
use Rattle.shard_core.proofs.TableLemmas.{opened_lists}
use Rattle.shard_core.proofs.shard.Shard.start.Goals as goal

pub invariant_of-result-clause-listed : goal.invariant_of-result-clause-listed
invariant_of-result-clause-listed g c =
    subst (λ (cache : Cache). Lists c.args.class c.args.rules cache.metrics c.in-Ok.table) (sym c.new.ensures) (opened_lists c.args.class c.args.rules c.in-Ok.table c.in-Ok.ensures.opened)
