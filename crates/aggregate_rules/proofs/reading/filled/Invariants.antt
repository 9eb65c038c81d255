use Rattle.std.proofs.Common.{◌≡◌, ◌++◌, drop, map}
use Rattle.aggregate_rules.specs.Readings.{parts_text}
use Rattle.aggregate_rules.proofs.reading.filled.Given as goal

abbrev pub invariant-loop-part : goal.invariant-loop-part
invariant-loop-part l = record {
  same : l.output.front ++ parts_text (map (λ row. row.now) l.rows) l.output.parts ≡ l.text.items ++ parts_text (map (λ row. row.now) l.rows) (drop l.part-index l.output.parts);
}
