use Rattle.std.proofs.Common.{◌≡◌, [], length}
use Rattle.std.specs.List.{slice_split}
use Rattle.aggregate_rules.specs.RuleTexts.{is_opening, parts_from}
use Rattle.aggregate_rules.proofs.output_text.parts_of.Given as goal

abbrev pub invariant-loop-piece : goal.invariant-loop-piece
invariant-loop-piece l = record {
  same : parts_from l.names [] (slice_split is_opening l.text) ≡ parts_from l.names l.parts (slice_split is_opening l.rest);
}

abbrev pub decreases-loop-piece : goal.decreases-loop-piece
decreases-loop-piece l = length l.rest
