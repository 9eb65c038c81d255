use Rattle.std.proofs.Common.{rules, ◌≡◌, ◌∙◌, Option, IfSome, sym, ap, subst}
use Rattle.metric_path.specs.Class.{class_of}
use Rattle.carbon_history.specs.declared.entry.Entry.{Entry}
use Rattle.shared_history.specs.Parts.{TailValue}
use Rattle.shard_core.specs.Halves.{desk_of}
use Rattle.shared_store.specs.Locks.{KeepsDesk}
use Rattle.shared_store.specs.Steps.{put_entry}
use Rattle.shared_store.specs.Tails.{MayTell, Tells, tail_told}
use Rattle.shared_store.proofs.class_desk.ClassDesk.put_under.Goals as goal
use Rattle.shared_store.proofs.DeskPutLemmas.{after_put, keeps_put, put_may}
use Rattle.shared_store.proofs.LookLemmas.{told_enters}

pub tell-requires-clause-may : goal.tell-requires-clause-may
tell-requires-clause-may g c =
    let n = g.N.Named in
    let in_desk = c.self.inside in
    let pass = c.args.pass.now in
    let datum = c.args.datum.now in
    let here : class_of datum.path ≡ in_desk.tail.class = search rules in
    subst (λ (o : Option Entry). IfSome o (MayTell n.start pass in_desk.tail)) (sym (c.put_event-event.ensures pass.number in_desk.tail.class))
    (put_may n.table n.halves n.start (desk_of in_desk.desk) (desk_of c.put-put.new.self) in_desk.half in_desk.tail datum.path datum.time datum.value c.self.invariant
    pass c.put-put.result c.requires.room here c.put-put.ensures.put)

pub invariant_of-self : goal.invariant_of-self
invariant_of-self g c =
    let n = g.N.Named in
    let in_desk = c.self.inside in
    let pass = c.args.pass.now in
    let datum = c.args.datum.now in
    let new = desk_of c.put-put.new.self in
    subst (λ (t : TailValue). KeepsDesk n.table n.halves n.start new in_desk.half t)
    (sym (c.tell.ensures.tail ∙ ap (tail_told in_desk.tail) (c.put_event-event.ensures pass.number in_desk.tail.class)))
    (keeps_put n.table n.halves n.start (desk_of in_desk.desk) new in_desk.half in_desk.tail datum.path datum.time datum.value c.self.invariant
    pass.number c.put-put.result c.put-put.ensures.put c.put-put.ensures.others.class)

pub returns-clause-enters : goal.returns-clause-enters
returns-clause-enters g c =
    let n = g.N.Named in
    let tail = c.self.inside.tail in
    let pass = c.args.pass.now in
    let datum = c.args.datum.now in
    told_enters n.start n.passes tail (put_entry pass.number datum.path datum.time datum.value c.put-put.result) pass c.tell.new.pass
    (subst (λ (o : Option Entry). Tells n.start n.passes tail o pass c.tell.new.pass) (c.put_event-event.ensures pass.number tail.class) c.tell.ensures.tells)

pub returns-clause-after : goal.returns-clause-after
returns-clause-after g c =
    let n = g.N.Named in
    let in_desk = c.self.inside in
    let pass = c.args.pass.now in
    let datum = c.args.datum.now in
    let here : class_of datum.path ≡ in_desk.tail.class = search rules in
    after_put n.table n.halves n.start (desk_of in_desk.desk) (desk_of c.put-put.new.self) in_desk.half in_desk.tail datum.path datum.time datum.value c.self.invariant
    n.passes c.put-put.result pass c.tell.new.pass here c.put-put.ensures.put
    (subst (λ (o : Option Entry). Tells n.start n.passes in_desk.tail o pass c.tell.new.pass) (c.put_event-event.ensures pass.number in_desk.tail.class) c.tell.ensures.tells)
