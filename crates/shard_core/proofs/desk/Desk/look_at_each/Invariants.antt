use Rattle.std.proofs.Common.{◌≡◌, ◌++◌, All, map}
use Rattle.std.specs.Prelude.{drop}
use Rattle.metric_table.specs.Table.{seen}
use Rattle.shard_core.specs.Looks.{IsSoundLook, looked_in}
use Rattle.shard_core.proofs.desk.Desk.look_at_each.Given as goal

abbrev pub invariant-loop-metric : goal.invariant-loop-metric
invariant-loop-metric l = record {
  looked : l.looked.items ++ looked_in l.self.cache.metrics l.now l.from l.until (map seen (drop l.metric-index l.found))
      ≡ looked_in l.self.cache.metrics l.now l.from l.until (map seen l.found);
  sound : All IsSoundLook l.looked.items;
}
