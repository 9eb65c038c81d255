use Rattle.std.proofs.Common.{rules, ◌≡◌}
use Rattle.std.specs.Prelude.{is_some}
use Rattle.shard_core.specs.Halves.{desk_of, files_of}
use Rattle.shared_store.proofs.class_files.ClassFiles.refuse_with.Goals as goal
use Rattle.shared_store.proofs.HeldLemmas.{is_empty}
use Rattle.shared_store.proofs.PlannedLemmas.{told_refused}

pub returns-clause-plans : goal.returns-clause-plans
returns-clause-plans g c =
    let n = g.N.Named in
    let f = c.self.inside in
    let d = c.desk.inside in
    let here : f.files.class ≡ d.desk.class = search rules in
    let shelved : c.args.self.now.shelved ≡ is_some f.files.work.shelf = search rules in
    let self_class : d.tail.class ≡ c.args.self.now.class = search rules in
    λ now. told_refused n.table n.halves n.told n.start n.faults (desk_of d.desk) (files_of {d = g.D.Disk} f.files) (g.D.Disk.faults f.files.disk)
    d.half f.half d.tail here c.meet.ensures.same c.desk.invariant c.self.invariant n.passes c.args.self.now.class now c.see.new.tail c.args.pass.now c.see.new.pass c.mark.new.pass
    (is_empty f.files.work.shelf c.args.self.now.shelved shelved c.requires.shelved) self_class c.see.ensures.all c.see.ensures.tail c.mark.ensures.later c.mark.ensures.pass
