use Rattle.std.proofs.Common.{◌≡◌, length, arith}
use Rattle.ring_archive.proofs.UnderLemmas.{under_all, under_both}
use Rattle.std.proofs.lemmas.Bool.Decides.{nat_tests}
use Rattle.archive_update.proofs.MoveLemmas.{under_moved}
use Rattle.archive_update.proofs.PlanLemmas.{plans_none, plans_some}
use Rattle.archive_update.proofs.planning.plan_archive.Goals as goal

pub returns-then-is_empty-clause-plans : goal.returns-then-is_empty-clause-plans
returns-then-is_empty-clause-plans g c =
    let none : length c.in_ok-own.own.items ≡ 0 = grind (arith, nat_tests, c.is_empty.ensures, c.if-is_empty.true) in
    under_all c.args.patch.now.fresh (g.D.Disk.image c.args.disk.now) c.args.view.now.name.now c.args.view.now.version c.args.view.now.layout.archives _ c.requires.file.1 (λ file.
    plans_none c.args.view.now.layout c.args.now c.args.points.now c.in_ok-own.own.items c.args.patch.now c.args.archive file c.in_ok-own.ensures.writes none)

pub returns-clause-plans : goal.returns-clause-plans
returns-clause-plans g c =
    let laid = rw c.deref.ensures.value at c.in_ok-base.ensures.writes.laid in
    let rolls = rw c.deref-2.ensures.value at c.in_ok-roll_up.ensures.rolls in
    let moved = under_moved c.args.patch.now.fresh c.write_values.new.patch.fresh (g.D.Disk.image c.args.disk.now) (g.D.Disk.image c.write_values.new.disk) c.args.view.now.name.now _ c.in_ok-base.ensures.alike.fresh c.in_ok-base.ensures.frame.kept rolls in
    under_both c.args.patch.now.fresh (g.D.Disk.image c.args.disk.now) c.args.view.now.name.now _ _ _ laid moved (λ file laid rolls.
    plans_some c.args.view.now.layout c.args.now c.args.points.now c.in_ok-own.own.items c.args.patch.now c.write_values.new.patch c.roll_up.new.patch c.args.archive file c.in_ok-own.ensures.writes laid rolls)
