use Rattle.std.proofs.Common.{length}
use Rattle.aggregate_front.specs.Emitting.{DidAll, Held}
use Rattle.aggregate_front.proofs.outputs.Outputs.undo_all.Given as goal

abbrev pub invariant-loop-deed : goal.invariant-loop-deed
invariant-loop-deed l = record {
  some : (before : Held) × DidAll before l.self l.deeds.items;
  same : (before : Held) → DidAll before l.fn.self l.fn.deeds.items → DidAll before l.self l.deeds.items;
}

abbrev pub decreases-loop-deed : goal.decreases-loop-deed
decreases-loop-deed l = length l.deeds.items
