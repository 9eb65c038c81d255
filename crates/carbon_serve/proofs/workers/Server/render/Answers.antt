use Rattle.std.proofs.Common.{ℕ, List, [], subst, sym}
use Rattle.http_front.specs.Origin.{caller_of, origin_of}
use Rattle.carbon_serve.specs.Deeds.{RendersFrom, telling}
use Rattle.carbon_serve.proofs.DeedLemmas.{renders_more, renders_none}
use Rattle.carbon_serve.proofs.WorkLemmas.{works_same, works_then}
use Rattle.carbon_serve.proofs.workers.Server.render.Goals as goal

pub loop-link-init : goal.loop-link-init
loop-link-init g c =
    let links = telling g.E.L.Source g.E.L.Sink c.args.self.now.rules.now in
    let w = origin_of g.C.Clock g.N.Named c.args.self.now.clock.now in
    let from = caller_of c.args.pass.now [] in
    record {
      works = works_same (g.C.Clock.moments c.args.self.now.clock.now) g.N.Named.start c.args.pass.now;
      did = subst (λ (told : List ℕ). RendersFrom links w from (caller_of c.args.pass.now told)) (sym c.new-watch.ensures) (renders_none links w from);
    }

pub returns-then-eq-clause-did : goal.returns-then-eq-clause-did
returns-then-eq-clause-did g c = (
  c.render_link.new.watch,
  renders_more (telling g.E.L.Source g.E.L.Sink c.args.self.now.rules.now) (origin_of g.C.Clock g.N.Named c.args.self.now.clock.now) c.in-Some-next_http.link
      (caller_of c.args.pass.now []) (caller_of c.loop-link.pass c.loop-link.watch) (caller_of c.render_link.new.pass c.render_link.new.watch)
      c.loop-link.invariant.did c.render_link.ensures.did,
)

pub loop-link-preserved : goal.loop-link-preserved
loop-link-preserved g c = record {
  works = works_then (g.C.Clock.moments c.args.self.now.clock.now) g.N.Named.start c.args.pass.now c.loop-link.pass c.render_link.new.pass c.loop-link.invariant.works c.render_link.ensures.works;
  did = renders_more (telling g.E.L.Source g.E.L.Sink c.args.self.now.rules.now) (origin_of g.C.Clock g.N.Named c.args.self.now.clock.now) c.in-Some-next_http.link
      (caller_of c.args.pass.now []) (caller_of c.loop-link.pass c.loop-link.watch) (caller_of c.render_link.new.pass c.render_link.new.watch)
      c.loop-link.invariant.did c.render_link.ensures.did;
}
