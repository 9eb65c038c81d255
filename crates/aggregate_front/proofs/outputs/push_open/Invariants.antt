use Rattle.std.proofs.Common.{◌≡◌, ◌++◌, map, take}
use Rattle.std.specs.List.{flat_map}
use Rattle.metric_line.specs.Seen.{seen}
use Rattle.aggregate_front.specs.Emitting.{point_of}
use Rattle.aggregate_front.proofs.outputs.push_open.Given as goal

abbrev pub invariant-loop-interval : goal.invariant-loop-interval
invariant-loop-interval l =
    map seen l.emitted.items ≡ map seen l.fn.emitted.items ++ flat_map (point_of l.key.path l.gathered.method) (take l.interval-index l.gathered.intervals)
