use Rattle.std.proofs.Common.{List, subst}
use Rattle.render_plan.specs.Asked.{plan_seen}
use Rattle.render_need.specs.declared.need.Need.{Need}
use Rattle.shared_store.specs.Asks.{Asks}
use Rattle.http_front.specs.Origin.{origin_of}
use Rattle.http_front.proofs.AskLemmas.{comes_of_plan, err_so, ok_so, short_of_plan}
use Rattle.http_front.proofs.renderer.Renderer.ask.Goals as goal

pub returns-clause-comes : goal.returns-clause-comes
returns-clause-comes g c =
    let w = origin_of g.C.Clock g.N.Named c.args.self.now.clock.now in
    let plan = plan_seen c.args.plan.now in
    let asks = subst (λ (needs : List Need). Asks w.start w.told w.passes c.args.now needs c.ask-rows.result c.args.pass.now c.ask-rows.new.pass) c.needs.ensures.value c.ask-rows.ensures.asks in
    ok_so c.found.result _ _ (λ outcome found. comes_of_plan w c.args.now plan c.ask-rows.result outcome c.args.pass.now c.ask-rows.new.pass asks found) c.found.ensures.found

pub returns-clause-short : goal.returns-clause-short
returns-clause-short g c =
    let w = origin_of g.C.Clock g.N.Named c.args.self.now.clock.now in
    let plan = plan_seen c.args.plan.now in
    let asks = subst (λ (needs : List Need). Asks w.start w.told w.passes c.args.now needs c.ask-rows.result c.args.pass.now c.ask-rows.new.pass) c.needs.ensures.value c.ask-rows.ensures.asks in
    err_so c.found.result _ _ (short_of_plan w c.args.now plan c.ask-rows.result c.args.pass.now c.ask-rows.new.pass asks) c.found.ensures.short
