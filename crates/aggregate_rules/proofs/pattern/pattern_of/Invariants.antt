use Rattle.std.proofs.Common.{◌≡◌, length}
use Rattle.metric_path.specs.Path.{nodes_of}
use Rattle.aggregate_rules.specs.RuleTexts.{empty_pattern, pattern_from}
use Rattle.aggregate_rules.proofs.pattern.pattern_of.Given as goal

abbrev pub invariant-loop-node : goal.invariant-loop-node
invariant-loop-node l = record {
  same : pattern_from empty_pattern (nodes_of l.text) ≡ pattern_from l.pattern (nodes_of l.rest);
}

abbrev pub decreases-loop-node : goal.decreases-loop-node
decreases-loop-node l = length l.rest
