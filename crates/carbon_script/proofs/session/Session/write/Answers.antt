use Rattle.std.proofs.Common.{refl, subst}
use Rattle.carbon_script.specs.Command.{Write}
use Rattle.carbon_script.specs.Replies.{Replies}
use Rattle.carbon_script.specs.Sessions.{SessionValue}
use Rattle.carbon_script.proofs.MachineLemmas.{replies_write, room_lacks}
use Rattle.carbon_script.proofs.RoundLemmas.{only_writes}
use Rattle.carbon_script.proofs.session.Session.write.Goals as goal

pub returns : goal.returns
returns g c =
    let n = g.N.Named in
    let old : SessionValue = record { pass = c.self.inside.pass; clock = c.self.inside.clock; counts = c.self.inside.counts } in
    subst (λ (code : SessionValue). Replies n.told n.start Write c.run_reply.result code (record { pass = c.write_run-run.new.pass; clock = c.self.inside.clock; counts = c.self.inside.counts })) c.self.view_is
    (replies_write n.told n.start c.write_run-run.result c.run_reply.result old (record old { pass = c.write_run-run.new.pass }) c.write_run-run.ensures c.run_reply.ensures refl refl)

pub returns-in_err-room : goal.returns-in_err-room
returns-in_err-room g c =
    room_lacks (Unit {0}) g.N.Named.told g.N.Named.start Write c.in_err-room.field-0.0 c.from_residual.result c.args.self.now c.from_residual.ensures.1 (λ m. refl)
    c.in_err-room.ensures

pub invariant_of-self : goal.invariant_of-self
invariant_of-self g c =
    let n = g.N.Named in
    (c.self.invariant.0, (only_writes n.table n.start c.write_run-run.result c.self.inside.pass c.write_run-run.new.pass c.self.invariant.1.0 c.write_run-run.ensures, c.self.invariant.1.1))
