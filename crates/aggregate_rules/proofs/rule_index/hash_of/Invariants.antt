use Rattle.std.proofs.Common.{◌≡◌, ◌<◌, take}
use Rattle.std.specs.List.{fold}
use Rattle.aggregate_rules.specs.RulePlaces.{hashed}
use Rattle.aggregate_rules.proofs.rule_index.hash_of.Given as goal

abbrev pub invariant-loop-b : goal.invariant-loop-b
invariant-loop-b l = record {
  value : l.hash ≡ fold hashed 0 (take l.b-index l.text);
  within : l.hash < 4096;
}
