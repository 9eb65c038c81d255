use Rattle.std.proofs.Common.{ℕ, List, [], subst, sym}
use Rattle.http_front.specs.Origin.{caller_of, origin_of}
use Rattle.carbon_serve.specs.Deeds.{ReceivesFrom, telling}
use Rattle.carbon_serve.proofs.DeedLemmas.{receives_more, receives_none}
use Rattle.carbon_serve.proofs.WorkLemmas.{works_same, works_then}
use Rattle.carbon_serve.proofs.workers.Server.receive.Goals as goal

pub loop-link-init : goal.loop-link-init
loop-link-init g c =
    let links = telling g.E.L.Source g.E.L.Sink c.args.self.now.rules.now in
    let w = origin_of g.C.Clock g.N.Named c.args.self.now.clock.now in
    let from = caller_of c.args.pass [] in
    record {
      works = works_same (g.C.Clock.moments c.args.self.now.clock.now) g.N.Named.start c.args.pass;
      did = subst (λ (told : List ℕ). ReceivesFrom links w from (caller_of c.args.pass told)) (sym c.new-watch.ensures) (receives_none links w from);
    }

pub returns-then-eq-clause-did : goal.returns-then-eq-clause-did
returns-then-eq-clause-did g c = (
  c.receive_link-served.new.watch,
  receives_more (telling g.E.L.Source g.E.L.Sink c.args.self.now.rules.now) (origin_of g.C.Clock g.N.Named c.args.self.now.clock.now) c.in-Some-next_lines.link
      (caller_of c.args.pass []) (caller_of c.loop-link.pass c.loop-link.watch) (caller_of c.receive_link-served.result.pass c.receive_link-served.new.watch)
      c.loop-link.invariant.did c.receive_link-served.ensures.did,
)

pub loop-link-preserved : goal.loop-link-preserved
loop-link-preserved g c = record {
  works = works_then (g.C.Clock.moments c.args.self.now.clock.now) g.N.Named.start c.args.pass c.loop-link.pass c.receive_link-served.result.pass c.loop-link.invariant.works c.receive_link-served.ensures.works;
  did = receives_more (telling g.E.L.Source g.E.L.Sink c.args.self.now.rules.now) (origin_of g.C.Clock g.N.Named c.args.self.now.clock.now) c.in-Some-next_lines.link
      (caller_of c.args.pass []) (caller_of c.loop-link.pass c.loop-link.watch) (caller_of c.receive_link-served.result.pass c.receive_link-served.new.watch)
      c.loop-link.invariant.did c.receive_link-served.ensures.did;
}
