use Rattle.std.proofs.Common.{List, subst, sym}
use Rattle.metric_index.specs.Found.{IsFitted}
use Rattle.metric_table.specs.declared.found_metric.FoundMetric.{FoundMetric}
use Rattle.shard_core.specs.Halves.{both, desk_of}
use Rattle.shard_core.specs.Looks.{IsFoundIn}
use Rattle.shard_core.proofs.desk.Desk.count_looks.Goals as goal

pub returns-in-Some : goal.returns-in-Some
returns-in-Some c = λ files.
    c.in-Some.ensures.shards (both (desk_of c.args.self.now) files) c.args.glob.now
    (subst (λ (found : List FoundMetric). IsFoundIn (both (desk_of c.args.self.now) files) (IsFitted c.args.glob.now) found) (sym c.deref.ensures.value) (c.in_ok-found.ensures files))
