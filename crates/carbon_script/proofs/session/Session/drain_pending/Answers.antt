use Rattle.std.proofs.Common.{refl, subst}
use Rattle.carbon_script.specs.Replies.{DrainsAlone}
use Rattle.carbon_script.specs.Sessions.{SessionValue}
use Rattle.carbon_script.proofs.DrainLemmas.{drains_alone, drains_not}
use Rattle.carbon_script.proofs.DrainLemmas.{only_drains}
use Rattle.carbon_script.proofs.MachineLemmas.{no_room}
use Rattle.carbon_script.proofs.session.Session.drain_pending.Goals as goal

pub returns-in-Ok : goal.returns-in-Ok
returns-in-Ok g c =
    let n = g.N.Named in
    let old : SessionValue = record { pass = c.self.inside.pass; clock = c.self.inside.clock; counts = c.self.inside.counts } in
    subst (λ (code : SessionValue). DrainsAlone n.start c.drain_all.result code (record { pass = c.drain_all.new.pass; clock = c.self.inside.clock; counts = c.self.inside.counts })) c.self.view_is
    (drains_alone n.start n.passes c.drain_all.result old (record old { pass = c.drain_all.new.pass }) c.self.invariant.1.1 c.drain_all.ensures.drains c.drain_all.ensures.looks refl refl)

pub returns-in-Err : goal.returns-in-Err
returns-in-Err g c = drains_not g.N.Named.start c.args.self.now (no_room (Unit {0}) c.in-Err.field-0 c.args.self.now.pass c.in-Err.ensures)

pub invariant_of-self : goal.invariant_of-self
invariant_of-self g c =
    let n = g.N.Named in
    (c.self.invariant.0, (only_drains n.table n.start n.passes c.self.inside.clock c.drain_all.result c.self.inside.pass c.drain_all.new.pass c.self.invariant.1.1 c.self.invariant.1.0 c.drain_all.ensures.drains, c.self.invariant.1.1))
