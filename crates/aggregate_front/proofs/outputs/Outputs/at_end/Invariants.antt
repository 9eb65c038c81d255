use Rattle.std.proofs.Common.{◌≡◌, map, take}
use Rattle.metric_line.specs.Seen.{seen}
use Rattle.aggregate_front.specs.Emitting.{at_end}
use Rattle.aggregate_front.proofs.outputs.Outputs.at_end.Given as goal

abbrev pub invariant-loop-place : goal.invariant-loop-place
invariant-loop-place l = map seen l.emitted.items ≡ at_end (take l.place l.self.outputs)
