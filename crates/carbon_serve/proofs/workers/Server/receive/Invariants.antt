use Rattle.std.proofs.Common.{[]}
use Rattle.http_front.specs.Origin.{caller_of, origin_of}
use Rattle.carbon_serve.specs.Deeds.{ReceivesFrom, telling}
use Rattle.carbon_serve.specs.Workers.{Works}
use Rattle.carbon_serve.proofs.workers.Server.receive.Given as goal

abbrev pub invariant-loop-link : goal.invariant-loop-link
invariant-loop-link g l = record {
  works : Works (g.C.Clock.moments l.fn.self.clock.now) g.N.Named.start l.fn.pass l.pass;
  did : ReceivesFrom (telling g.E.L.Source g.E.L.Sink l.fn.self.rules.now) (origin_of g.C.Clock g.N.Named l.fn.self.clock.now) (caller_of l.fn.pass []) (caller_of l.pass l.watch);
}
