use Rattle.std.proofs.Common.{◌≡◌, [], drop, map, option_copied}
use Rattle.metric_path.specs.Path.{nodes_of}
use Rattle.aggregate_rules.specs.Readings.{reading}
use Rattle.aggregate_rules.specs.SeenWords.{left_nodes}
use Rattle.aggregate_rules.proofs.reading.rows_of.Given as goal

abbrev pub invariant-loop-node : goal.invariant-loop-node
invariant-loop-node l = record {
  same : reading [] l.nodes (nodes_of l.path) ≡ reading (map (λ row. row.now) l.rows.items) (drop l.node-index l.nodes) (left_nodes (option_copied l.left));
}
