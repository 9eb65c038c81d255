use Rattle.std.proofs.Common.{◌≤◌, ◌-◌, length, map, take}
use Rattle.metric_line.specs.Seen.{seen}
use Rattle.line_front.specs.Points.{PutsEach}
use Rattle.line_front.proofs.emitting.put_emitted.Given as goal

abbrev pub invariant-loop-at : goal.invariant-loop-at
invariant-loop-at g l = record {
  few : l.at ≤ length l.points;
  puts : PutsEach g.N.Named.start g.N.Named.passes (map seen (take l.at l.points)) l.fn.pass l.pass;
}

abbrev pub decreases-loop-at : goal.decreases-loop-at
decreases-loop-at g l = length l.points - l.at
