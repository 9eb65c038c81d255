use Rattle.std.proofs.Common.{refl, subst}
use Rattle.render_plan.specs.Asked.{plan_seen}
use Rattle.shared_store.specs.Asks.{Asks}
use Rattle.carbon_script.specs.Replies.{RepliesTo}
use Rattle.carbon_script.specs.Sessions.{SessionValue}
use Rattle.carbon_script.proofs.AskLemmas.{replies_found, spent_room}
use Rattle.carbon_script.proofs.AskLemmas.{only_asks}
use Rattle.carbon_script.proofs.session.Session.ask_plan.Goals as goal

pub returns : goal.returns
returns g c =
    let n = g.N.Named in
    let old : SessionValue = record { pass = c.self.inside.pass; clock = c.self.inside.clock; counts = c.self.inside.counts } in
    subst (λ (code : SessionValue). RepliesTo n.told n.start (plan_seen c.args.plan.now) c.found_reply.result code (record { pass = c.ask-found.new.pass; clock = c.self.inside.clock; counts = c.self.inside.counts })) c.self.view_is
    (replies_found n.told n.start n.passes (plan_seen c.args.plan.now) c.ask-found.result c.found_reply.result old (record old { pass = c.ask-found.new.pass }) c.self.invariant.1.1
    (subst (λ needs. Asks n.start n.told n.passes old.clock needs c.ask-found.result old.pass c.ask-found.new.pass) c.needs-needs.ensures.value c.ask-found.ensures.asks)
    c.ask-found.ensures.looks c.found_reply.ensures refl refl)

pub returns-in_err-room : goal.returns-in_err-room
returns-in_err-room g c =
    spent_room (Unit {0}) g.N.Named.told g.N.Named.start (plan_seen c.args.plan.now) c.in_err-room.field-0.0 c.from_residual.result c.args.self.now
    c.from_residual.ensures.1 c.in_err-room.ensures

pub invariant_of-self : goal.invariant_of-self
invariant_of-self g c =
    let n = g.N.Named in
    (c.self.invariant.0, (only_asks n.table n.start n.told n.passes c.self.inside.clock _ c.ask-found.result c.self.inside.pass c.ask-found.new.pass c.self.invariant.1.1 c.self.invariant.1.0 c.ask-found.ensures.asks, c.self.invariant.1.1))
