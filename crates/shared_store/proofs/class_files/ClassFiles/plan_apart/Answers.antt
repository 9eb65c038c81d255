use Rattle.std.proofs.Common.{rules, ◌≡◌, ◌∙◌, ℕ, ◌≤◌, Option, Some, refl, sym, ap, subst}
use Rattle.std.specs.Prelude.{is_some}
use Rattle.carbon_model.specs.Replay.{replay}
use Rattle.carbon_model.specs.State.{State}
use Rattle.class_halves.specs.Parts.{HalfValue, half_with, stand_of}
use Rattle.shard_core.specs.Halves.{AreHalves, DeskInside, FilesInside, both, desk_of, files_of}
use Rattle.shard_core.specs.Stepping.{IsAsBefore, IsNext}
use Rattle.shard_core.specs.declared.next_metric.NextMetric.{NextMetric}
use Rattle.shared_store.specs.Desks.{KeepsClass}
use Rattle.shared_store.specs.Locks.{HoldsDesk, KeepsDesk}
use Rattle.shared_store.specs.Steps.{PlansAs}
use Rattle.shared_store.proofs.class_files.ClassFiles.plan_apart.Goals as goal
use Rattle.shared_store.proofs.BothLemmas.{both_halves, both_keep}
use Rattle.shared_store.proofs.DeskPutLemmas.{desk_part}
use Rattle.shared_store.proofs.HeldLemmas.{desk_picks, desk_stands, files_read, is_empty, same_files}
use Rattle.shared_store.proofs.PlannedLemmas.{desk_planned, files_planned, later_by, planned_may, planned_over, planned_owes, planned_tail, rose_by, told_planned}

pub make-made-requires : goal.make-made-requires
make-made-requires g c =
    let n = g.N.Named in
    let f = c.self.inside in
    let d = c.desk.inside in
    let desk : DeskInside = desk_of d.desk in
    let files : FilesInside = files_of {d = g.D.Disk} f.files in
    let failed : ℕ = g.D.Disk.faults f.files.disk in
    let here : f.files.class ≡ d.desk.class = search rules in
    let halves : AreHalves desk files = both_halves n.table n.halves n.told n.start n.faults desk files failed d.half f.half d.tail here c.meet.ensures.same c.desk.invariant c.self.invariant in
    let shelved : c.args.self.now.shelved ≡ is_some f.files.work.shelf = search rules in
    let next : IsNext desk (Some c.in-Ok-Some.metric) = subst (λ (o : Option NextMetric). IsNext desk o) c.in-Ok-Some.field-0-is c.in-Ok-Some.ensures.next in
    next.may files halves (is_empty f.files.work.shelf c.args.self.now.shelved shelved c.requires.shelved)

pub invariant_of-desk : goal.invariant_of-desk
invariant_of-desk g c =
    let n = g.N.Named in
    let d = c.desk.inside in
    subst (λ (h : HalfValue). KeepsDesk n.table n.halves n.start (desk_of c.next.new.self) h d.tail) (sym c.meet.ensures.desk)
    (desk_picks n.table n.halves n.start (desk_of d.desk) (desk_of c.next.new.self) d.half d.tail c.next.ensures.only c.desk.invariant)

pub begin_next-begun-requires-clause-halves : goal.begin_next-begun-requires-clause-halves
begin_next-begun-requires-clause-halves g c =
    let n = g.N.Named in
    let f = c.self.inside in
    let d = c.desk-2.inside in
    let pass = c.args.pass.now in
    let desk : DeskInside = desk_of d.desk in
    let files : FilesInside = files_of {d = g.D.Disk} f.files in
    let failed : ℕ = g.D.Disk.faults f.files.disk in
    let here : f.files.class ≡ d.desk.class = search rules in
    let met : f.half.stand ≡ d.half.stand = ap (λ (h : HalfValue). h.stand) (sym c.meet.ensures.files) ∙ c.meet-2.ensures.same in
    let halves : AreHalves desk files = both_halves n.table n.halves n.told n.start n.faults desk files failed d.half f.half d.tail here met c.desk-2.invariant c.self.invariant in
    let same : files_of {d = g.D.Disk} c.make-made.new.self ≡ files = c.make-made.ensures.same in
    subst (AreHalves desk) (sym same) halves

pub begin_next-begun-requires-clause-empty : goal.begin_next-begun-requires-clause-empty
begin_next-begun-requires-clause-empty g c =
    let f = c.self.inside in
    let shelved : c.args.self.now.shelved ≡ is_some f.files.work.shelf = search rules in
    ap (λ (x : FilesInside). x.shelf) c.make-made.ensures.same ∙ is_empty f.files.work.shelf c.args.self.now.shelved shelved c.requires.shelved

pub tell-requires-clause-may : goal.tell-requires-clause-may
tell-requires-clause-may g c =
    let n = g.N.Named in
    let f = c.self.inside in
    let d = c.desk-2.inside in
    let files : FilesInside = files_of {d = g.D.Disk} f.files in
    let here : f.files.class ≡ d.desk.class = search rules in
    let met : f.half.stand ≡ d.half.stand = ap (λ (h : HalfValue). h.stand) (sym c.meet.ensures.files) ∙ c.meet-2.ensures.same in
    let plans = planned_over c.in-Some.planned c.args.now (desk_of d.desk) (desk_of c.begin_next-begun.new.desk) files (files_of {d = g.D.Disk} c.make-made.new.self)
    (files_of {d = g.D.Disk} c.begin_next-begun.new.self) c.make-made.ensures.same c.in-Some.ensures.plans in
    planned_may n.table n.halves n.told n.start n.faults (desk_of d.desk) (desk_of c.begin_next-begun.new.desk) files (files_of {d = g.D.Disk} c.begin_next-begun.new.self)
    (g.D.Disk.faults f.files.disk) c.args.now d.half f.half d.tail c.in-Some.planned here met c.desk-2.invariant c.self.invariant plans
    c.args.pass.now _ c.requires.room (c.plan_event-event.ensures.event c.args.pass.now.number d.tail.class)

pub settle_begun-requires : goal.settle_begun-requires
settle_begun-requires g c =
    let n = g.N.Named in
    let f = c.self.inside in
    let d = c.desk-2.inside in
    let files : FilesInside = files_of {d = g.D.Disk} f.files in
    let here : f.files.class ≡ d.desk.class = search rules in
    let met : f.half.stand ≡ d.half.stand = ap (λ (h : HalfValue). h.stand) (sym c.meet.ensures.files) ∙ c.meet-2.ensures.same in
    let plans = planned_over c.in-Some.planned c.args.now (desk_of d.desk) (desk_of c.begin_next-begun.new.desk) files (files_of {d = g.D.Disk} c.make-made.new.self)
    (files_of {d = g.D.Disk} c.begin_next-begun.new.self) c.make-made.ensures.same c.in-Some.ensures.plans in
    planned_owes n.table n.halves n.told n.start n.faults (desk_of d.desk) (desk_of c.begin_next-begun.new.desk) files (files_of {d = g.D.Disk} c.begin_next-begun.new.self)
    (g.D.Disk.faults f.files.disk) c.args.now d.half f.half d.tail c.in-Some.planned here met c.desk-2.invariant c.self.invariant plans
    c.args.pass.now.number _ c.tell.new.tail (c.plan_event-event.ensures.event c.args.pass.now.number d.tail.class) c.tell.ensures.tail

pub invariant_of-self-2 : goal.invariant_of-self-2
invariant_of-self-2 g c =
    let n = g.N.Named in
    let f = c.self.inside in
    let d = c.desk-2.inside in
    let files : FilesInside = files_of {d = g.D.Disk} f.files in
    let here : f.files.class ≡ d.desk.class = search rules in
    let met : f.half.stand ≡ d.half.stand = ap (λ (h : HalfValue). h.stand) (sym c.meet.ensures.files) ∙ c.meet-2.ensures.same in
    let plans = planned_over c.in-Some.planned c.args.now (desk_of d.desk) (desk_of c.begin_next-begun.new.desk) files (files_of {d = g.D.Disk} c.make-made.new.self)
    (files_of {d = g.D.Disk} c.begin_next-begun.new.self) c.make-made.ensures.same c.in-Some.ensures.plans in
    let count : g.D.Disk.faults c.begin_next-begun.new.self.disk ≡ g.D.Disk.faults c.make-made.new.self.disk = ap (λ x. g.D.Disk.faults x) c.in-Some.ensures.disk in
    let begun = planned_tail c.in-Some.planned c.args.now c.args.pass.now.number d.tail c.tell.new.tail c.settle_begun.new.tail _ c.shelved.result c.begin_next-begun.new.self.work.shelf
    c.settle_begun.ensures c.shelved.ensures c.tell.ensures.tail (c.plan_event-event.ensures.event c.args.pass.now.number d.tail.class) in
    files_planned n.table n.halves n.told n.start n.faults (desk_of d.desk) (desk_of c.begin_next-begun.new.desk) files (files_of {d = g.D.Disk} c.begin_next-begun.new.self)
    (g.D.Disk.faults f.files.disk) (g.D.Disk.faults c.begin_next-begun.new.self.disk) c.args.now c.args.pass.now.number d.half f.half d.tail c.settle_begun.new.tail c.in-Some.planned
    here met c.desk-2.invariant c.self.invariant plans c.in-Some.ensures.keeps.same.class c.in-Some.ensures.keeps.halves
    (later_by (g.D.Disk.faults f.files.disk) (g.D.Disk.faults c.make-made.new.self.disk) (g.D.Disk.faults c.begin_next-begun.new.self.disk) count c.make-made.ensures.frame.later)
    (λ is. rose_by (g.D.Disk.faults f.files.disk) (g.D.Disk.faults c.make-made.new.self.disk) (g.D.Disk.faults c.begin_next-begun.new.self.disk) count
    (c.make-made.ensures.frame.cause (c.in-Some.ensures.cause (ap Some is)))) begun
    c.renew.new.files (c.renew.ensures.files ∙ ap (λ (h : HalfValue). half_with h (stand_of c.settle_begun.new.tail)) (c.meet-2.ensures.files ∙ c.meet.ensures.files))

pub invariant_of-desk-2 : goal.invariant_of-desk-2
invariant_of-desk-2 g c =
    let n = g.N.Named in
    let f = c.self.inside in
    let d = c.desk-2.inside in
    let files : FilesInside = files_of {d = g.D.Disk} f.files in
    let here : f.files.class ≡ d.desk.class = search rules in
    let met : f.half.stand ≡ d.half.stand = ap (λ (h : HalfValue). h.stand) (sym c.meet.ensures.files) ∙ c.meet-2.ensures.same in
    let plans = planned_over c.in-Some.planned c.args.now (desk_of d.desk) (desk_of c.begin_next-begun.new.desk) files (files_of {d = g.D.Disk} c.make-made.new.self)
    (files_of {d = g.D.Disk} c.begin_next-begun.new.self) c.make-made.ensures.same c.in-Some.ensures.plans in
    let count : g.D.Disk.faults c.begin_next-begun.new.self.disk ≡ g.D.Disk.faults c.make-made.new.self.disk = ap (λ x. g.D.Disk.faults x) c.in-Some.ensures.disk in
    let begun = planned_tail c.in-Some.planned c.args.now c.args.pass.now.number d.tail c.tell.new.tail c.settle_begun.new.tail _ c.shelved.result c.begin_next-begun.new.self.work.shelf
    c.settle_begun.ensures c.shelved.ensures c.tell.ensures.tail (c.plan_event-event.ensures.event c.args.pass.now.number d.tail.class) in
    desk_planned n.table n.halves n.told n.start n.faults (desk_of d.desk) (desk_of c.begin_next-begun.new.desk) files (files_of {d = g.D.Disk} c.begin_next-begun.new.self)
    (g.D.Disk.faults f.files.disk) (g.D.Disk.faults c.begin_next-begun.new.self.disk) c.args.now c.args.pass.now.number d.half f.half d.tail c.settle_begun.new.tail c.in-Some.planned
    here met c.desk-2.invariant c.self.invariant plans c.in-Some.ensures.keeps.same.class c.in-Some.ensures.keeps.halves
    (later_by (g.D.Disk.faults f.files.disk) (g.D.Disk.faults c.make-made.new.self.disk) (g.D.Disk.faults c.begin_next-begun.new.self.disk) count c.make-made.ensures.frame.later)
    (λ is. rose_by (g.D.Disk.faults f.files.disk) (g.D.Disk.faults c.make-made.new.self.disk) (g.D.Disk.faults c.begin_next-begun.new.self.disk) count
    (c.make-made.ensures.frame.cause (c.in-Some.ensures.cause (ap Some is)))) begun
    c.renew.new.desk c.mark.new.tail (c.renew.ensures.desk ∙ ap (λ (h : HalfValue). half_with h (stand_of c.settle_begun.new.tail)) c.meet-2.ensures.desk) c.mark.ensures.tail

pub returns-clause-plans : goal.returns-clause-plans
returns-clause-plans g c =
    let n = g.N.Named in
    let f = c.self.inside in
    let d = c.desk-2.inside in
    let files : FilesInside = files_of {d = g.D.Disk} f.files in
    let here : f.files.class ≡ d.desk.class = search rules in
    let met : f.half.stand ≡ d.half.stand = ap (λ (h : HalfValue). h.stand) (sym c.meet.ensures.files) ∙ c.meet-2.ensures.same in
    let plans = planned_over c.in-Some.planned c.args.now (desk_of d.desk) (desk_of c.begin_next-begun.new.desk) files (files_of {d = g.D.Disk} c.make-made.new.self)
    (files_of {d = g.D.Disk} c.begin_next-begun.new.self) c.make-made.ensures.same c.in-Some.ensures.plans in
    let count : g.D.Disk.faults c.begin_next-begun.new.self.disk ≡ g.D.Disk.faults c.make-made.new.self.disk = ap (λ x. g.D.Disk.faults x) c.in-Some.ensures.disk in
    let begun = planned_tail c.in-Some.planned c.args.now c.args.pass.now.number d.tail c.tell.new.tail c.settle_begun.new.tail _ c.shelved.result c.begin_next-begun.new.self.work.shelf
    c.settle_begun.ensures c.shelved.ensures c.tell.ensures.tail (c.plan_event-event.ensures.event c.args.pass.now.number d.tail.class) in
    let self_class : d.tail.class ≡ c.args.self.now.class = search rules in
    told_planned n.table n.halves n.told n.start n.faults (desk_of d.desk) (desk_of c.begin_next-begun.new.desk) files (files_of {d = g.D.Disk} c.begin_next-begun.new.self)
    (g.D.Disk.faults f.files.disk) (g.D.Disk.faults c.begin_next-begun.new.self.disk) c.args.now c.args.pass.now.number d.half f.half d.tail c.settle_begun.new.tail c.in-Some.planned
    here met c.desk-2.invariant c.self.invariant plans c.in-Some.ensures.keeps.same.class c.in-Some.ensures.keeps.halves
    (later_by (g.D.Disk.faults f.files.disk) (g.D.Disk.faults c.make-made.new.self.disk) (g.D.Disk.faults c.begin_next-begun.new.self.disk) count c.make-made.ensures.frame.later)
    (λ is. rose_by (g.D.Disk.faults f.files.disk) (g.D.Disk.faults c.make-made.new.self.disk) (g.D.Disk.faults c.begin_next-begun.new.self.disk) count
    (c.make-made.ensures.frame.cause (c.in-Some.ensures.cause (ap Some is)))) begun
    n.passes c.args.self.now.class c.args.pass.now c.tell.new.pass c.mark.new.pass _ self_class refl c.requires.room
    (c.plan_event-event.ensures.event c.args.pass.now.number d.tail.class) c.tell.ensures.tells c.plan_event-event.ensures.legal c.mark.ensures.later c.mark.ensures.pass

pub invariant_of-desk-in-None : goal.invariant_of-desk-in-None
invariant_of-desk-in-None g c =
    let n = g.N.Named in
    let f = c.self.inside in
    let d = c.desk-2.inside in
    let pass = c.args.pass.now in
    let desk : DeskInside = desk_of d.desk in
    let files : FilesInside = files_of {d = g.D.Disk} f.files in
    let failed : ℕ = g.D.Disk.faults f.files.disk in
    let here : f.files.class ≡ d.desk.class = search rules in
    let met : f.half.stand ≡ d.half.stand = ap (λ (h : HalfValue). h.stand) (sym c.meet.ensures.files) ∙ c.meet-2.ensures.same in
    let halves : AreHalves desk files = both_halves n.table n.halves n.told n.start n.faults desk files failed d.half f.half d.tail here met c.desk-2.invariant c.self.invariant in
    let same : files_of {d = g.D.Disk} c.make-made.new.self ≡ files = c.make-made.ensures.same in
    let after : DeskInside = desk_of c.begin_next-begun.new.desk in
    let there : FilesInside = files_of {d = g.D.Disk} c.begin_next-begun.new.self in
    let before : IsAsBefore (both desk files) (both after there) = subst (λ (x : FilesInside). IsAsBefore (both desk x) (both after there)) same c.in-None.ensures.plans in
    let s : State = replay n.start d.tail.list in
    let keeps : KeepsClass n.table n.told n.start n.faults (both desk files) failed d.tail =
    both_keep n.table n.halves n.told n.start n.faults desk files failed d.half f.half d.tail here met c.desk-2.invariant c.self.invariant in
    let stands : HoldsDesk after s = desk_part (n.told desk.class) after there s (before.stays (n.told desk.class) s keeps.holds) in
    subst (λ (h : HalfValue). KeepsDesk n.table n.halves n.start after h d.tail) (sym c.meet-2.ensures.desk)
    (desk_stands n.table n.halves n.start desk after d.half d.tail c.in-None.ensures.keeps.same.class stands c.desk-2.invariant)

pub invariant_of-self-in-None : goal.invariant_of-self-in-None
invariant_of-self-in-None g c =
    let n = g.N.Named in
    let f = c.self.inside in
    let d = c.desk-2.inside in
    let pass = c.args.pass.now in
    let desk : DeskInside = desk_of d.desk in
    let files : FilesInside = files_of {d = g.D.Disk} f.files in
    let failed : ℕ = g.D.Disk.faults f.files.disk in
    let here : f.files.class ≡ d.desk.class = search rules in
    let met : f.half.stand ≡ d.half.stand = ap (λ (h : HalfValue). h.stand) (sym c.meet.ensures.files) ∙ c.meet-2.ensures.same in
    let halves : AreHalves desk files = both_halves n.table n.halves n.told n.start n.faults desk files failed d.half f.half d.tail here met c.desk-2.invariant c.self.invariant in
    let same : files_of {d = g.D.Disk} c.make-made.new.self ≡ files = c.make-made.ensures.same in
    let after : DeskInside = desk_of c.begin_next-begun.new.desk in
    let there : FilesInside = files_of {d = g.D.Disk} c.begin_next-begun.new.self in
    let before : IsAsBefore (both desk files) (both after there) = subst (λ (x : FilesInside). IsAsBefore (both desk x) (both after there)) same c.in-None.ensures.plans in
    let later : ℕ = g.D.Disk.faults c.begin_next-begun.new.self.disk in
    let fault_count : later ≡ g.D.Disk.faults c.make-made.new.self.disk = ap (λ x. g.D.Disk.faults x) c.in-None.ensures.disk in
    let more : failed ≤ later = subst (λ (n : ℕ). failed ≤ n) (sym fault_count) c.make-made.ensures.frame.later in
    files_read n.halves n.told n.start n.faults files there failed later f.half c.meet-2.new.files
    (same_files files there (c.in-None.ensures.keeps.halves.one ∙ (c.in-None.ensures.keeps.same.class ∙ sym here)) before.shelf before.steps before.log
    (ap (λ x. g.D.Disk.image x) c.in-None.ensures.disk ∙ ap (λ (x : FilesInside). x.known) same))
    (c.meet-2.ensures.files ∙ c.meet.ensures.files) more c.self.invariant

pub returns-in-Err-clause-plans : goal.returns-in-Err-clause-plans
returns-in-Err-clause-plans g c =
    let n = g.N.Named in
    let self_class : c.self.inside.files.class ≡ c.args.self.now.class = search rules in
    subst (λ (k : ℕ). PlansAs n.start n.passes k c.args.now c.refuse_with.result c.args.pass.now c.refuse_with.new.pass) self_class (c.refuse_with.ensures.plans c.args.now)
