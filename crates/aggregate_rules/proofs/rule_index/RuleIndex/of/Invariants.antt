use Rattle.std.proofs.Common.{◌≤◌, length}
use Rattle.aggregate_rules.specs.RulePlaces.{IsIndexFrom}
use Rattle.aggregate_rules.proofs.rule_index.RuleIndex.of.Given as goal

abbrev pub invariant-loop-place : goal.invariant-loop-place
invariant-loop-place l = record {
  is : IsIndexFrom l.rules l.place l.index;
  within : l.place ≤ length l.rules;
}

abbrev pub decreases-loop-place : goal.decreases-loop-place
decreases-loop-place l = l.place
