use Rattle.std.proofs.Common.{◌≡◌, ◌+◌, ◌≤◌, length, []}
use Rattle.rule_lines.specs.TextLines.{lines_of}
use Rattle.schema_rules.specs.RuleLines.{sections_from}
use Rattle.schema_rules.proofs.file.sections_of.Given as goal

abbrev pub invariant-loop-first : goal.invariant-loop-first
invariant-loop-first l = record {
  same : sections_from [] 1 (lines_of l.file) ≡ sections_from l.sections l.number (lines_of l.rest);
  count : l.number + length l.rest ≤ length l.file + 1;
  few : length l.sections + 1 ≤ l.number;
}

abbrev pub decreases-loop-first : goal.decreases-loop-first
decreases-loop-first l = length l.rest
