use Rattle.std.proofs.Common.{[], refl, subst, sym}
use Rattle.shared_store.specs.Passes.{HasRoom}
use Rattle.carbon_script.specs.Replies.{Summarises}
use Rattle.carbon_script.specs.Sessions.{SessionValue}
use Rattle.carbon_script.proofs.AloneLemmas.{adds_same}
use Rattle.carbon_script.proofs.SessionLemmas.{summarises}
use Rattle.carbon_script.proofs.AloneLemmas.{only_enters}
use Rattle.carbon_script.proofs.session.Session.summary.Goals as goal

pub returns : goal.returns
returns g c =
    let n = g.N.Named in
    let old : SessionValue = record { pass = c.self.inside.pass; clock = c.self.inside.clock; counts = c.self.inside.counts } in
    let adds = adds_same n.start n.passes [] old.pass c.tally-tally.new.pass c.self.invariant.1.1 c.self.invariant.1.0.number c.tally-tally.ensures.enters c.tally-tally.ensures.looks in
    subst (λ (code : SessionValue). Summarises n.start c.summary.result code (record { pass = c.tally-tally.new.pass; clock = c.self.inside.clock; counts = c.self.inside.counts })) c.self.view_is
    (summarises n.table n.start c.summary.result old (record old { pass = c.tally-tally.new.pass }) c.tally-tally.result c.self.invariant.1.0 adds (subst (λ (code : SessionValue). HasRoom code.pass) (sym c.self.view_is) c.requires) c.tally-tally.ensures.counts c.summary.ensures refl refl)

pub invariant_of-self : goal.invariant_of-self
invariant_of-self g c =
    let n = g.N.Named in
    (c.self.invariant.0, (only_enters n.table n.start n.passes [] c.self.inside.pass c.tally-tally.new.pass c.self.invariant.1.1 c.self.invariant.1.0 c.tally-tally.ensures.enters, c.self.invariant.1.1))
