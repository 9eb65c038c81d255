use Rattle.std.proofs.Common.{◌≡◌, ◌+◌, drop, []}
use Rattle.schema_rules.specs.RuleSections.{schemas_from}
use Rattle.schema_rules.proofs.schema.schemas_of.Given as goal

abbrev pub invariant-loop-section : goal.invariant-loop-section
invariant-loop-section l = record {
  same : schemas_from [] 1 l.sections ≡ schemas_from l.rules.items l.number (drop l.section-index l.sections);
  count : l.number ≡ l.section-index + 1;
}
