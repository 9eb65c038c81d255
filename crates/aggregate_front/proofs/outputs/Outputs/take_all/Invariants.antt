use Rattle.std.proofs.Common.{map, take}
use Rattle.metric_line.specs.Seen.{seen}
use Rattle.aggregate_front.specs.Emitting.{DidAll, FeedsAll}
use Rattle.aggregate_front.proofs.outputs.Outputs.take_all.Given as goal

abbrev pub invariant-loop-hit : goal.invariant-loop-hit
invariant-loop-hit l = record {
  feeds : FeedsAll l.fn.self l.self l.point (take l.hit-index l.hits) (map seen l.fn.emitted.items) (map seen l.emitted.items);
  did : DidAll l.fn.self l.self l.deeds.items;
}
