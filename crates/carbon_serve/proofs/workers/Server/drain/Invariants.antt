use Rattle.http_front.specs.Origin.{caller_of}
use Rattle.carbon_serve.specs.Deeds.{DrainsOnly}
use Rattle.carbon_serve.specs.Workers.{Works}
use Rattle.carbon_serve.proofs.workers.Server.drain.Given as goal

abbrev pub invariant-loop-round : goal.invariant-loop-round
invariant-loop-round g l = record {
  works : Works (g.C.Clock.moments l.fn.self.clock.now) g.N.Named.start l.fn.pass l.pass;
  only : DrainsOnly (g.C.Clock.moments l.fn.self.clock.now) (caller_of l.fn.pass l.fn.watch) (caller_of l.pass l.watch);
}
