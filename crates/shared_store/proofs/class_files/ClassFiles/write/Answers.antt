use Rattle.std.proofs.Common.{rules, ◌≡◌, ◌∙◌, refl, ap, subst}
use Rattle.std.specs.Prelude.{is_some}
use Rattle.class_halves.specs.Parts.{HalfValue, half_with, stand_of}
use Rattle.shard_core.specs.Halves.{AreHalves, DeskInside, FilesInside, both, desk_of, files_of}
use Rattle.shard_core.specs.Writes.{WritesTo}
use Rattle.shard_core.specs.declared.planned.Wrote.{Wrote}
use Rattle.shard_core.specs.declared.planned.Wrote.TheVariants.{Nothing}
use Rattle.shared_store.specs.Tails.{tail_told, tail_wrote}
use Rattle.shared_store.proofs.class_files.ClassFiles.write.Goals as goal
use Rattle.shared_store.proofs.BothLemmas.{both_halves}
use Rattle.shared_store.proofs.WrittenLemmas.{after_written, desk_written, files_written, looks_written, written_may, written_owes}

pub count_run-requires : goal.count_run-requires
count_run-requires g c =
    let n = g.N.Named in
    let f = c.self.inside in
    let d = c.desk.inside in
    let desk : DeskInside = desk_of d.desk in
    let here : f.files.class ≡ d.desk.class = search rules in
    written_owes n.table n.halves n.told n.start n.faults desk (files_of {d = g.D.Disk} f.files) (files_of {d = g.D.Disk} c.write_next-wrote.new.self)
    (g.D.Disk.faults f.files.disk) d.half f.half d.tail c.mark.new.tail c.write_next-wrote.result
    here c.meet.ensures.same c.desk.invariant c.self.invariant (c.write_next-wrote.ensures.writes desk) c.mark.ensures.tail

pub returns-clause-nothing : goal.returns-clause-nothing
returns-clause-nothing g c = λ nothing.
    let f = c.self.inside in
    let desk : DeskInside = desk_of c.desk.inside.desk in
    let old : FilesInside = files_of {d = g.D.Disk} f.files in
    let new : FilesInside = files_of {d = g.D.Disk} c.write_next-wrote.new.self in
    let shelved : c.args.self.now.shelved ≡ is_some f.files.work.shelf = search rules in
    let writes : WritesTo Nothing (both desk old) (both desk new) = subst (λ (w : Wrote). WritesTo w (both desk old) (both desk new)) nothing (c.write_next-wrote.ensures.writes desk) in
    shelved ∙ ap is_some writes.0

pub tell-requires-clause-may : goal.tell-requires-clause-may
tell-requires-clause-may g c =
    let n = g.N.Named in
    written_may n.table n.halves n.told n.start n.faults c.args.pass.now c.mark.new.pass c.desk.inside.tail c.count_run.new.tail c.write_next-wrote.result _
    c.mark.ensures.pass c.requires.room (c.write_event.ensures c.mark.new.pass.number c.count_run.new.tail.class)

pub invariant_of-self : goal.invariant_of-self
invariant_of-self g c =
    let n = g.N.Named in
    let f = c.self.inside in
    let d = c.desk.inside in
    let desk : DeskInside = desk_of d.desk in
    let here : f.files.class ≡ d.desk.class = search rules in
    let before : AreHalves desk (files_of {d = g.D.Disk} f.files) =
    both_halves n.table n.halves n.told n.start n.faults desk (files_of {d = g.D.Disk} f.files) (g.D.Disk.faults f.files.disk) d.half f.half d.tail here c.meet.ensures.same c.desk.invariant c.self.invariant in
    let pass = c.mark.new.pass in
    let tail = c.count_run.new.tail in
    let event = c.write_event.ensures pass.number tail.class in
    files_written n.table n.halves n.told n.start n.faults desk (files_of {d = g.D.Disk} f.files) (files_of {d = g.D.Disk} c.write_next-wrote.new.self)
    (g.D.Disk.faults f.files.disk) (g.D.Disk.faults c.write_next-wrote.new.self.disk) pass.number d.half f.half d.tail tail c.tell.new.tail c.write_next-wrote.result
    here c.meet.ensures.same c.desk.invariant c.self.invariant (c.write_next-wrote.ensures.writes desk) (c.write_next-wrote.ensures.stays desk before) (c.write_next-wrote.ensures.halves desk before)
    c.write_next-wrote.ensures.class c.write_next-wrote.ensures.frame.later c.write_next-wrote.ensures.frame.cause
    (c.count_run.ensures ∙ ap (tail_wrote c.write_next-wrote.result) c.mark.ensures.tail) (c.tell.ensures.tail ∙ ap (tail_told tail) event)
    c.renew.new.files (c.renew.ensures.files ∙ ap (λ (h : HalfValue). half_with h (stand_of c.tell.new.tail)) c.meet.ensures.files)

pub invariant_of-desk : goal.invariant_of-desk
invariant_of-desk g c =
    let n = g.N.Named in
    let f = c.self.inside in
    let d = c.desk.inside in
    let desk : DeskInside = desk_of d.desk in
    let here : f.files.class ≡ d.desk.class = search rules in
    let before : AreHalves desk (files_of {d = g.D.Disk} f.files) =
    both_halves n.table n.halves n.told n.start n.faults desk (files_of {d = g.D.Disk} f.files) (g.D.Disk.faults f.files.disk) d.half f.half d.tail here c.meet.ensures.same c.desk.invariant c.self.invariant in
    let pass = c.mark.new.pass in
    let tail = c.count_run.new.tail in
    let event = c.write_event.ensures pass.number tail.class in
    desk_written n.table n.halves n.told n.start n.faults desk (files_of {d = g.D.Disk} f.files) (files_of {d = g.D.Disk} c.write_next-wrote.new.self)
    (g.D.Disk.faults f.files.disk) (g.D.Disk.faults c.write_next-wrote.new.self.disk) pass.number d.half f.half d.tail tail c.tell.new.tail c.write_next-wrote.result
    here c.meet.ensures.same c.desk.invariant c.self.invariant (c.write_next-wrote.ensures.writes desk) (c.write_next-wrote.ensures.stays desk before) (c.write_next-wrote.ensures.halves desk before)
    c.write_next-wrote.ensures.class c.write_next-wrote.ensures.frame.later c.write_next-wrote.ensures.frame.cause
    (c.count_run.ensures ∙ ap (tail_wrote c.write_next-wrote.result) c.mark.ensures.tail) (c.tell.ensures.tail ∙ ap (tail_told tail) event)
    c.renew.new.desk c.mark-2.new.tail (c.renew.ensures.desk ∙ ap (λ (h : HalfValue). half_with h (stand_of c.tell.new.tail)) c.meet.ensures.desk) c.mark-2.ensures.tail

pub returns-clause-after : goal.returns-clause-after
returns-clause-after g c =
    let n = g.N.Named in
    let f = c.self.inside in
    let d = c.desk.inside in
    let desk : DeskInside = desk_of d.desk in
    let here : f.files.class ≡ d.desk.class = search rules in
    let before : AreHalves desk (files_of {d = g.D.Disk} f.files) =
    both_halves n.table n.halves n.told n.start n.faults desk (files_of {d = g.D.Disk} f.files) (g.D.Disk.faults f.files.disk) d.half f.half d.tail here c.meet.ensures.same c.desk.invariant c.self.invariant in
    let pass = c.mark.new.pass in
    let tail = c.count_run.new.tail in
    let event = c.write_event.ensures pass.number tail.class in
    let is : d.tail.class ≡ c.args.self.now.class = search rules in
    after_written n.table n.halves n.told n.start n.faults desk (files_of {d = g.D.Disk} f.files) (files_of {d = g.D.Disk} c.write_next-wrote.new.self)
    (g.D.Disk.faults f.files.disk) (g.D.Disk.faults c.write_next-wrote.new.self.disk) pass.number d.half f.half d.tail tail c.tell.new.tail c.write_next-wrote.result
    here c.meet.ensures.same c.desk.invariant c.self.invariant (c.write_next-wrote.ensures.writes desk) (c.write_next-wrote.ensures.stays desk before) (c.write_next-wrote.ensures.halves desk before)
    c.write_next-wrote.ensures.class c.write_next-wrote.ensures.frame.later c.write_next-wrote.ensures.frame.cause
    (c.count_run.ensures ∙ ap (tail_wrote c.write_next-wrote.result) c.mark.ensures.tail) (c.tell.ensures.tail ∙ ap (tail_told tail) event)
    n.passes c.args.self.now.class c.args.pass.now c.tell.new.pass c.mark-2.new.pass is c.mark.ensures.later c.mark-2.ensures.pass

pub returns-clause-looks : goal.returns-clause-looks
returns-clause-looks g c =
    let n = g.N.Named in
    let f = c.self.inside in
    let d = c.desk.inside in
    let desk : DeskInside = desk_of d.desk in
    let here : f.files.class ≡ d.desk.class = search rules in
    let before : AreHalves desk (files_of {d = g.D.Disk} f.files) =
    both_halves n.table n.halves n.told n.start n.faults desk (files_of {d = g.D.Disk} f.files) (g.D.Disk.faults f.files.disk) d.half f.half d.tail here c.meet.ensures.same c.desk.invariant c.self.invariant in
    let pass = c.mark.new.pass in
    let tail = c.count_run.new.tail in
    let event = c.write_event.ensures pass.number tail.class in
    let is : d.tail.class ≡ c.args.self.now.class = search rules in
    looks_written n.table n.halves n.told n.start n.faults desk (files_of {d = g.D.Disk} f.files) (files_of {d = g.D.Disk} c.write_next-wrote.new.self)
    (g.D.Disk.faults f.files.disk) (g.D.Disk.faults c.write_next-wrote.new.self.disk) pass.number d.half f.half d.tail tail c.tell.new.tail c.write_next-wrote.result
    here c.meet.ensures.same c.desk.invariant c.self.invariant (c.write_next-wrote.ensures.writes desk) (c.write_next-wrote.ensures.stays desk before) (c.write_next-wrote.ensures.halves desk before)
    c.write_next-wrote.ensures.class c.write_next-wrote.ensures.frame.later c.write_next-wrote.ensures.frame.cause
    (c.count_run.ensures ∙ ap (tail_wrote c.write_next-wrote.result) c.mark.ensures.tail) (c.tell.ensures.tail ∙ ap (tail_told tail) event)
    n.passes c.args.self.now.class c.args.pass.now pass c.tell.new.pass c.mark-2.new.pass _ is refl c.requires.room c.mark.ensures.pass c.mark.ensures.later
    event c.tell.ensures.tells c.mark-2.ensures.pass c.mark-2.ensures.later
