use Rattle.std.proofs.Common.{◌<◌}
use Rattle.http_front.specs.Origin.{caller_of}
use Rattle.carbon_serve.specs.Deeds.{DrainsOnly}
use Rattle.carbon_serve.specs.Workers.{Works}
use Rattle.carbon_serve.proofs.workers.Server.drain_round.Given as goal

abbrev pub invariant-loop-turn : goal.invariant-loop-turn
invariant-loop-turn g l = record {
  class : l.class < 16;
  works : Works (g.C.Clock.moments l.fn.self.clock.now) g.N.Named.start l.fn.pass l.pass;
  only : DrainsOnly (g.C.Clock.moments l.fn.self.clock.now) (caller_of l.fn.pass l.fn.watch) (caller_of l.pass l.watch);
}
