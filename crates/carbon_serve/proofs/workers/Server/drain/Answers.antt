use Rattle.std.proofs.Common.{[], ◌∷◌}
use Rattle.http_front.specs.Origin.{caller_of}
use Rattle.carbon_serve.proofs.DeedLemmas.{only_read, only_then}
use Rattle.carbon_serve.proofs.WorkLemmas.{works_same}
use Rattle.carbon_serve.proofs.workers.Server.drain.Goals as goal

pub loop-round-init : goal.loop-round-init
loop-round-init g c = record {
  works = works_same (g.C.Clock.moments c.args.self.now.clock.now) g.N.Named.start c.args.pass.now;
  only = only_read (g.C.Clock.moments c.args.self.now.clock.now) c.args.pass.now c.args.watch.now c.read.new.self (c.read.result ∷ []) c.read.ensures.told;
}

pub returns-then-is_done-clause-only : goal.returns-then-is_done-clause-only
returns-then-is_done-clause-only g c =
    only_then (g.C.Clock.moments c.args.self.now.clock.now) (caller_of c.args.pass.now c.args.watch.now) (caller_of c.loop-round.pass c.loop-round.watch)
    (caller_of c.drain_round.new.pass c.drain_round.new.watch) c.loop-round.invariant.only c.drain_round.ensures.only
