use Rattle.std.proofs.Common.{◌≡◌, ◌+◌, ◌≤◌, length, []}
use Rattle.rule_lines.specs.TextLines.{lines_of}
use Rattle.aggregate_rules.specs.RuleTexts.{rules_from}
use Rattle.aggregate_rules.proofs.rule_list.read_lines.Given as goal

abbrev pub invariant-loop-first : goal.invariant-loop-first
invariant-loop-first l = record {
  same : rules_from [] 1 (lines_of l.file) ≡ rules_from l.rules l.number (lines_of l.rest);
  count : l.number + length l.rest ≤ length l.file + 1;
}

abbrev pub decreases-loop-first : goal.decreases-loop-first
decreases-loop-first l = length l.rest
