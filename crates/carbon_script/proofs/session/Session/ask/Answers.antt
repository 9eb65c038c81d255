use Rattle.std.proofs.Common.{◌∙◌, ℕ, [], ap, sym}
use Rattle.render_plan.specs.Asked.{plan_seen}
use Rattle.render_plan.specs.Planned.{read_plan}
use Rattle.carbon_script.specs.Sessions.{SessionValue}
use Rattle.carbon_script.proofs.AskLemmas.{replies_read, replies_unread}
use Rattle.carbon_script.proofs.session.Session.ask.Goals as goal

pub returns-in-Ok : goal.returns-in-Ok
returns-in-Ok g c = replies_read g.N.Named.told g.N.Named.start c.args.query.now (plan_seen c.in-Ok.plan) c.ask_plan.result c.args.self.now c.ask_plan.new.self
    (ap (λ (t : ℕ). read_plan c.args.query.now [] t) (sym (c.from.ensures ∙ ap (λ (code : SessionValue). code.clock) c.self.view_is)) ∙ c.in-Ok.ensures.ok) c.ask_plan.ensures

pub returns-in-Err : goal.returns-in-Err
returns-in-Err g c = replies_unread g.N.Named.told g.N.Named.start c.args.query.now c.in-Err.fault c.unread_reply.result c.args.self.now
    (λ other. ap (λ (t : ℕ). read_plan c.args.query.now [] t) (sym (c.from.ensures ∙ ap (λ (code : SessionValue). code.clock) c.self.view_is)) ∙ c.in-Err.ensures.err other)
    c.unread_reply.ensures
