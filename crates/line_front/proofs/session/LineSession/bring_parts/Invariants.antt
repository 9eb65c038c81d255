use Rattle.std.proofs.Common.{◌≡◌, ◌≤◌, ◌-◌, length, take}
use Rattle.line_front.specs.Bringing.{BringsAll}
use Rattle.line_front.proofs.session.LineSession.bring_parts.Given as goal

abbrev pub invariant-loop-at : goal.invariant-loop-at
invariant-loop-at g l = record {
  few : l.at ≤ length l.points;
  brings : BringsAll g.N.Named.start g.N.Named.passes (take l.at l.points) l.fn.self.session l.self.session;
  watch : l.self.watch ≡ l.fn.self.watch;
}

abbrev pub decreases-loop-at : goal.decreases-loop-at
decreases-loop-at g l = length l.points - l.at
