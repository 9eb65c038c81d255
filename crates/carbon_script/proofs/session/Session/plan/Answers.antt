use Rattle.std.proofs.Common.{refl, subst}
use Rattle.carbon_script.specs.Command.{Plan}
use Rattle.carbon_script.specs.Replies.{Replies}
use Rattle.carbon_script.specs.Sessions.{SessionValue}
use Rattle.carbon_script.proofs.MachineLemmas.{replies_plan, room_lacks}
use Rattle.carbon_script.proofs.RoundLemmas.{only_begins}
use Rattle.carbon_script.proofs.session.Session.plan.Goals as goal

pub returns : goal.returns
returns g c =
    let n = g.N.Named in
    let old : SessionValue = record { pass = c.self.inside.pass; clock = c.self.inside.clock; counts = c.self.inside.counts } in
    subst (λ (code : SessionValue). Replies n.told n.start Plan c.begun_reply.result code (record { pass = c.begin_drain-begun.new.pass; clock = c.self.inside.clock; counts = c.self.inside.counts })) c.self.view_is
    (replies_plan n.told n.start c.begin_drain-begun.result c.begun_reply.result old (record old { pass = c.begin_drain-begun.new.pass }) c.begin_drain-begun.ensures c.begun_reply.ensures refl refl)

pub returns-in_err-room : goal.returns-in_err-room
returns-in_err-room g c =
    room_lacks (Unit {0}) g.N.Named.told g.N.Named.start Plan c.in_err-room.field-0.0 c.from_residual.result c.args.self.now c.from_residual.ensures.1 (λ m. refl)
    c.in_err-room.ensures

pub invariant_of-self : goal.invariant_of-self
invariant_of-self g c =
    let n = g.N.Named in
    (c.self.invariant.0, (only_begins n.table n.start c.self.inside.clock c.begin_drain-begun.result c.self.inside.pass c.begin_drain-begun.new.pass c.self.invariant.1.0 c.begin_drain-begun.ensures, c.self.invariant.1.1))
