use Rattle.std.proofs.Common.{rules, ◌≡◌, ◌∙◌, refl, ap}
use Rattle.class_halves.specs.Parts.{HalfValue, half_with, stand_of}
use Rattle.shard_core.specs.Halves.{desk_of, files_of}
use Rattle.shared_store.specs.Steps.{PlansAs}
use Rattle.shared_store.proofs.class_files.ClassFiles.plan_with.Goals as goal
use Rattle.shared_store.proofs.BothLemmas.{both_halves}
use Rattle.shared_store.proofs.PlannedLemmas.{desk_planned, files_planned, planned_may, planned_owes, planned_tail, told_planned}

pub plan-planned-requires : goal.plan-planned-requires
plan-planned-requires g c =
    let n = g.N.Named in
    let f = c.self.inside in
    let d = c.desk.inside in
    let here : f.files.class ≡ d.desk.class = search rules in
    both_halves n.table n.halves n.told n.start n.faults (desk_of d.desk) (files_of {d = g.D.Disk} f.files) (g.D.Disk.faults f.files.disk) d.half f.half d.tail here c.meet.ensures.same c.desk.invariant c.self.invariant

pub tell-requires-clause-may : goal.tell-requires-clause-may
tell-requires-clause-may g c =
    let n = g.N.Named in
    let f = c.self.inside in
    let d = c.desk.inside in
    let here : f.files.class ≡ d.desk.class = search rules in
    planned_may n.table n.halves n.told n.start n.faults (desk_of d.desk) (desk_of c.plan-planned.new.desk) (files_of {d = g.D.Disk} f.files) (files_of {d = g.D.Disk} c.plan-planned.new.self)
    (g.D.Disk.faults f.files.disk) c.args.now d.half f.half d.tail c.plan-planned.result here c.meet.ensures.same c.desk.invariant c.self.invariant c.plan-planned.ensures.plans
    c.args.pass.now _ c.requires.room (c.plan_event-event.ensures.event c.args.pass.now.number d.tail.class)

pub settle_begun-requires : goal.settle_begun-requires
settle_begun-requires g c =
    let n = g.N.Named in
    let f = c.self.inside in
    let d = c.desk.inside in
    let here : f.files.class ≡ d.desk.class = search rules in
    planned_owes n.table n.halves n.told n.start n.faults (desk_of d.desk) (desk_of c.plan-planned.new.desk) (files_of {d = g.D.Disk} f.files) (files_of {d = g.D.Disk} c.plan-planned.new.self)
    (g.D.Disk.faults f.files.disk) c.args.now d.half f.half d.tail c.plan-planned.result here c.meet.ensures.same c.desk.invariant c.self.invariant c.plan-planned.ensures.plans
    c.args.pass.now.number _ c.tell.new.tail (c.plan_event-event.ensures.event c.args.pass.now.number d.tail.class) c.tell.ensures.tail

pub invariant_of-self : goal.invariant_of-self
invariant_of-self g c =
    let n = g.N.Named in
    let f = c.self.inside in
    let d = c.desk.inside in
    let here : f.files.class ≡ d.desk.class = search rules in
    let begun = planned_tail c.plan-planned.result c.args.now c.args.pass.now.number d.tail c.tell.new.tail c.settle_begun.new.tail _ c.shelved.result c.plan-planned.new.self.work.shelf
    c.settle_begun.ensures c.shelved.ensures c.tell.ensures.tail (c.plan_event-event.ensures.event c.args.pass.now.number d.tail.class) in
    files_planned n.table n.halves n.told n.start n.faults (desk_of d.desk) (desk_of c.plan-planned.new.desk) (files_of {d = g.D.Disk} f.files) (files_of {d = g.D.Disk} c.plan-planned.new.self)
    (g.D.Disk.faults f.files.disk) (g.D.Disk.faults c.plan-planned.new.self.disk) c.args.now c.args.pass.now.number d.half f.half d.tail c.settle_begun.new.tail c.plan-planned.result
    here c.meet.ensures.same c.desk.invariant c.self.invariant c.plan-planned.ensures.plans c.plan-planned.ensures.keeps.same.class c.plan-planned.ensures.keeps.halves
    c.plan-planned.ensures.frame.later c.plan-planned.ensures.frame.cause begun
    c.renew.new.files (c.renew.ensures.files ∙ ap (λ (h : HalfValue). half_with h (stand_of c.settle_begun.new.tail)) c.meet.ensures.files)

pub invariant_of-desk : goal.invariant_of-desk
invariant_of-desk g c =
    let n = g.N.Named in
    let f = c.self.inside in
    let d = c.desk.inside in
    let here : f.files.class ≡ d.desk.class = search rules in
    let begun = planned_tail c.plan-planned.result c.args.now c.args.pass.now.number d.tail c.tell.new.tail c.settle_begun.new.tail _ c.shelved.result c.plan-planned.new.self.work.shelf
    c.settle_begun.ensures c.shelved.ensures c.tell.ensures.tail (c.plan_event-event.ensures.event c.args.pass.now.number d.tail.class) in
    desk_planned n.table n.halves n.told n.start n.faults (desk_of d.desk) (desk_of c.plan-planned.new.desk) (files_of {d = g.D.Disk} f.files) (files_of {d = g.D.Disk} c.plan-planned.new.self)
    (g.D.Disk.faults f.files.disk) (g.D.Disk.faults c.plan-planned.new.self.disk) c.args.now c.args.pass.now.number d.half f.half d.tail c.settle_begun.new.tail c.plan-planned.result
    here c.meet.ensures.same c.desk.invariant c.self.invariant c.plan-planned.ensures.plans c.plan-planned.ensures.keeps.same.class c.plan-planned.ensures.keeps.halves
    c.plan-planned.ensures.frame.later c.plan-planned.ensures.frame.cause begun
    c.renew.new.desk c.mark.new.tail (c.renew.ensures.desk ∙ ap (λ (h : HalfValue). half_with h (stand_of c.settle_begun.new.tail)) c.meet.ensures.desk) c.mark.ensures.tail

pub returns-clause-after : goal.returns-clause-after
returns-clause-after g c =
    let n = g.N.Named in
    let f = c.self.inside in
    let d = c.desk.inside in
    let here : f.files.class ≡ d.desk.class = search rules in
    let begun = planned_tail c.plan-planned.result c.args.now c.args.pass.now.number d.tail c.tell.new.tail c.settle_begun.new.tail _ c.shelved.result c.plan-planned.new.self.work.shelf
    c.settle_begun.ensures c.shelved.ensures c.tell.ensures.tail (c.plan_event-event.ensures.event c.args.pass.now.number d.tail.class) in
    let self_class : d.tail.class ≡ c.args.self.now.class = search rules in
    let plans : PlansAs n.start n.passes c.args.self.now.class c.args.now c.plan-planned.result c.args.pass.now c.mark.new.pass =
    told_planned n.table n.halves n.told n.start n.faults (desk_of d.desk) (desk_of c.plan-planned.new.desk) (files_of {d = g.D.Disk} f.files) (files_of {d = g.D.Disk} c.plan-planned.new.self)
    (g.D.Disk.faults f.files.disk) (g.D.Disk.faults c.plan-planned.new.self.disk) c.args.now c.args.pass.now.number d.half f.half d.tail c.settle_begun.new.tail c.plan-planned.result
    here c.meet.ensures.same c.desk.invariant c.self.invariant c.plan-planned.ensures.plans c.plan-planned.ensures.keeps.same.class c.plan-planned.ensures.keeps.halves
    c.plan-planned.ensures.frame.later c.plan-planned.ensures.frame.cause begun
    n.passes c.args.self.now.class c.args.pass.now c.tell.new.pass c.mark.new.pass _ self_class refl c.requires.room
    (c.plan_event-event.ensures.event c.args.pass.now.number d.tail.class) c.tell.ensures.tells c.plan_event-event.ensures.legal c.mark.ensures.later c.mark.ensures.pass in
    plans.after

pub returns-clause-looks : goal.returns-clause-looks
returns-clause-looks g c =
    let n = g.N.Named in
    let f = c.self.inside in
    let d = c.desk.inside in
    let here : f.files.class ≡ d.desk.class = search rules in
    let begun = planned_tail c.plan-planned.result c.args.now c.args.pass.now.number d.tail c.tell.new.tail c.settle_begun.new.tail _ c.shelved.result c.plan-planned.new.self.work.shelf
    c.settle_begun.ensures c.shelved.ensures c.tell.ensures.tail (c.plan_event-event.ensures.event c.args.pass.now.number d.tail.class) in
    let self_class : d.tail.class ≡ c.args.self.now.class = search rules in
    let plans : PlansAs n.start n.passes c.args.self.now.class c.args.now c.plan-planned.result c.args.pass.now c.mark.new.pass =
    told_planned n.table n.halves n.told n.start n.faults (desk_of d.desk) (desk_of c.plan-planned.new.desk) (files_of {d = g.D.Disk} f.files) (files_of {d = g.D.Disk} c.plan-planned.new.self)
    (g.D.Disk.faults f.files.disk) (g.D.Disk.faults c.plan-planned.new.self.disk) c.args.now c.args.pass.now.number d.half f.half d.tail c.settle_begun.new.tail c.plan-planned.result
    here c.meet.ensures.same c.desk.invariant c.self.invariant c.plan-planned.ensures.plans c.plan-planned.ensures.keeps.same.class c.plan-planned.ensures.keeps.halves
    c.plan-planned.ensures.frame.later c.plan-planned.ensures.frame.cause begun
    n.passes c.args.self.now.class c.args.pass.now c.tell.new.pass c.mark.new.pass _ self_class refl c.requires.room
    (c.plan_event-event.ensures.event c.args.pass.now.number d.tail.class) c.tell.ensures.tells c.plan_event-event.ensures.legal c.mark.ensures.later c.mark.ensures.pass in
    plans.looks
