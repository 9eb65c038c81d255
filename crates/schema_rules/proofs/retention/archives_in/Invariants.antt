use Rattle.std.proofs.Common.{◌≡◌, ◌+◌, ◌≤◌, length, []}
use Rattle.std.specs.List.{slice_split}
use Rattle.schema_rules.specs.Retentions.{archives_from, is_comma}
use Rattle.schema_rules.proofs.retention.archives_in.Given as goal

abbrev pub invariant-loop-piece : goal.invariant-loop-piece
invariant-loop-piece l = record {
  same : archives_from [] 0 (slice_split is_comma l.text) ≡ archives_from l.archives l.count (slice_split is_comma l.rest);
  count : l.count + length l.rest ≤ length l.text;
}

abbrev pub decreases-loop-piece : goal.decreases-loop-piece
decreases-loop-piece l = length l.rest
