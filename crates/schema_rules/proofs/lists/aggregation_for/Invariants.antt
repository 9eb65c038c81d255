use Rattle.std.proofs.Common.{◌≡◌, drop}
use Rattle.schema_rules.specs.LayoutBy.{aggregation_for}
use Rattle.schema_rules.proofs.lists.aggregation_for.Given as goal

abbrev pub invariant-loop-aggregation : goal.invariant-loop-aggregation
invariant-loop-aggregation l = aggregation_for l.aggregations l.path ≡ aggregation_for (drop l.aggregation-index l.aggregations) l.path
