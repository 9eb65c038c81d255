use Rattle.std.proofs.Common.{[], refl, subst}
use Rattle.std.specs.Prelude.{Ok, Err}
use Rattle.metric_line.specs.Seen.{seen}
use Rattle.carbon_history.specs.declared.entry.PutEnd.TheVariants.{Stored, Replaced, Full}
use Rattle.carbon_script.specs.Command.{Metric}
use Rattle.carbon_script.specs.Replies.{Replies}
use Rattle.carbon_script.specs.Sessions.{SessionValue}
use Rattle.carbon_script.specs.declared.reply.Shortage.TheVariants.{Memory}
use Rattle.carbon_script.proofs.AloneLemmas.{adds_same}
use Rattle.carbon_script.proofs.MachineLemmas.{put_adds, replies_put, room_lacks, short_put}
use Rattle.carbon_script.proofs.AloneLemmas.{only_enters}
use Rattle.carbon_script.proofs.session.Session.put.Goals as goal

pub returns-in-Stored : goal.returns-in-Stored
returns-in-Stored g c =
    let n = g.N.Named in
    let old : SessionValue = record { pass = c.self.inside.pass; clock = c.self.inside.clock; counts = c.self.inside.counts } in
    let only = c.self.invariant.1.0 in
    subst (λ (code : SessionValue). Replies n.told n.start (Metric (seen c.args.datum.now)) (Ok c.count.result) code c.count.new.self) c.self.view_is
    (replies_put n.told n.start old (record old { pass = c.put.new.pass }) c.count.new.self (seen c.args.datum.now) Stored c.count.result
    (put_adds n.table n.start n.passes old.pass c.put.new.pass (seen c.args.datum.now) Stored c.self.invariant.1.1 only c.in-Stored.ensures.enters c.in-Stored.ensures.looks)
    refl refl c.count.ensures.said c.count.ensures.counts)

pub returns-in-Replaced : goal.returns-in-Replaced
returns-in-Replaced g c =
    let n = g.N.Named in
    let old : SessionValue = record { pass = c.self.inside.pass; clock = c.self.inside.clock; counts = c.self.inside.counts } in
    let only = c.self.invariant.1.0 in
    subst (λ (code : SessionValue). Replies n.told n.start (Metric (seen c.args.datum.now)) (Ok c.count-in-Replaced.result) code c.count-in-Replaced.new.self) c.self.view_is
    (replies_put n.told n.start old (record old { pass = c.put.new.pass }) c.count-in-Replaced.new.self (seen c.args.datum.now) Replaced c.count-in-Replaced.result
    (put_adds n.table n.start n.passes old.pass c.put.new.pass (seen c.args.datum.now) Replaced c.self.invariant.1.1 only c.in-Replaced.ensures.enters c.in-Replaced.ensures.looks)
    refl refl c.count-in-Replaced.ensures.said c.count-in-Replaced.ensures.counts)

pub returns-in-Full : goal.returns-in-Full
returns-in-Full g c =
    let n = g.N.Named in
    let old : SessionValue = record { pass = c.self.inside.pass; clock = c.self.inside.clock; counts = c.self.inside.counts } in
    let only = c.self.invariant.1.0 in
    subst (λ (code : SessionValue). Replies n.told n.start (Metric (seen c.args.datum.now)) (Ok c.count-in-Full.result) code c.count-in-Full.new.self) c.self.view_is
    (replies_put n.told n.start old (record old { pass = c.put.new.pass }) c.count-in-Full.new.self (seen c.args.datum.now) Full c.count-in-Full.result
    (put_adds n.table n.start n.passes old.pass c.put.new.pass (seen c.args.datum.now) Full c.self.invariant.1.1 only c.in-Full.ensures.enters c.in-Full.ensures.looks)
    refl refl c.count-in-Full.ensures.said c.count-in-Full.ensures.counts)

pub returns-in-NoMemory : goal.returns-in-NoMemory
returns-in-NoMemory g c =
    let n = g.N.Named in
    let old : SessionValue = record { pass = c.self.inside.pass; clock = c.self.inside.clock; counts = c.self.inside.counts } in
    let only = c.self.invariant.1.0 in
    subst (λ (code : SessionValue). Replies n.told n.start (Metric (seen c.args.datum.now)) (Err Memory) code (record { pass = c.put.new.pass; clock = c.self.inside.clock; counts = c.self.inside.counts })) c.self.view_is
    (short_put n.told n.start old (record old { pass = c.put.new.pass }) (seen c.args.datum.now)
    (adds_same n.start n.passes [] old.pass c.put.new.pass c.self.invariant.1.1 only.number c.in-NoMemory.ensures.enters c.in-NoMemory.ensures.looks) refl refl)

pub returns-in_err-room : goal.returns-in_err-room
returns-in_err-room g c =
    room_lacks (Unit {0}) g.N.Named.told g.N.Named.start (Metric (seen c.args.datum.now)) c.in_err-room.field-0.0 c.from_residual.result c.args.self.now c.from_residual.ensures.1 (λ m. refl)
    c.in_err-room.ensures

pub invariant_of-self : goal.invariant_of-self
invariant_of-self g c =
    let n = g.N.Named in
    (c.self.invariant.0, (only_enters n.table n.start n.passes _ c.self.inside.pass c.put.new.pass c.self.invariant.1.1 c.self.invariant.1.0 c.put.ensures.enters, c.self.invariant.1.1))
