use Rattle.std.proofs.Common.{◌≢◌, ◌∙◌, ap, arith, length}
use Rattle.ring_archive.proofs.UnderLemmas.{under_both}
use Rattle.std.proofs.lemmas.Bool.Decides.{nat_tests}
use Rattle.archive_update.specs.Batch.{level_writes}
use Rattle.archive_update.proofs.RollLemmas.{level_given}
use Rattle.archive_update.proofs.rolling.roll_level.Goals as goal

pub returns-clause-level : goal.returns-clause-level
returns-clause-level g c =
    let laid = rw (c.in_ok-writes.ensures.frame.kept, c.deref-2.ensures.value) at c.in_ok-base.ensures.writes.laid in
    let some : length c.in_ok-writes.writes.items ≢ 0 = grind (arith, nat_tests, c.is_empty.ensures, c.if-is_empty.false) in
    under_both c.args.patch.now.fresh (g.D.Disk.image c.args.disk.now) c.args.view.now.name.now _ _ _ c.in_ok-writes.ensures.writes laid (λ file are laid.
    level_given c.args.view.now.layout c.args.own.now c.args.patch.now c.write_values.new.patch c.args.finer.archive c.in_ok-writes.writes.items file
    (λ rings reads. are rings reads ∙ ap (level_writes c.args.view.now.layout rings c.args.finer.archive) (c.deref.ensures.value ∙ c.in_ok-buckets.ensures.value)) some laid)
