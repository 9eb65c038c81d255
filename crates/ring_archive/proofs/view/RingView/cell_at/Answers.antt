use Rattle.std.proofs.Common.{◌∙◌, arith}
use Rattle.ring_archive.proofs.UnderLemmas.{under_all, under_both, under_map}
use Rattle.ring_archive.proofs.ValueLemmas.{no_bucket, empty_archive, value_there}
use Rattle.ring_archive.proofs.view.RingView.cell_at.Goals as goal

pub returns-then-not-is_bucket-clause-value : goal.returns-then-not-is_bucket-clause-value
returns-then-not-is_bucket-clause-value g c =
    under_all c.args.patch.now.fresh (g.D.Disk.image c.args.disk.now) c.args.self.now.name.now c.args.self.now.version c.args.self.now.layout.archives _ c.requires.file.1 (λ file. no_bucket c.args.patch.now file c.args.archive c.args.bucket c.archive-ring.result
    (rw c.requires.layout c.archive-ring.ensures.value) (grind (arith, c.is_bucket.ensures, c.if-not-is_bucket.true, c.if-not-is_bucket.ensures)))

pub returns-then-base-eq0-clause-value : goal.returns-then-base-eq0-clause-value
returns-then-base-eq0-clause-value g c =
    under_map c.args.patch.now.fresh (g.D.Disk.image c.args.disk.now) c.args.self.now.name.now _ _ c.in_ok-base.ensures.value (λ file at. empty_archive c.args.patch.now file c.args.archive c.args.bucket c.archive-ring.result c.in_ok-base.base
    (rw c.requires.layout c.archive-ring.ensures.value) (grind (arith, c.is_bucket.ensures, c.if-not-is_bucket.false, c.if-not-is_bucket.ensures)) at (grind (arith, c.if-base-eq0.true)))

pub returns-then-slot-eq0-clause-value : goal.returns-then-slot-eq0-clause-value
returns-then-slot-eq0-clause-value g c =
    under_map c.args.patch.now.fresh (g.D.Disk.image c.args.disk.now) c.args.self.now.name.now _ _ c.in_ok-base.ensures.value (λ file at. c.value_for.ensures ∙ value_there c.args.patch.now file c.args.archive c.args.bucket c.archive-ring.result c.in_ok-base.base c.in_ok-base.base
    (rw c.requires.layout c.archive-ring.ensures.value) (grind (arith, c.is_bucket.ensures, c.if-not-is_bucket.false, c.if-not-is_bucket.ensures)) (grind (arith, c.if-base-eq0.false)) at
    (rw (← c.slot_of-slot.ensures.value, c.if-slot-eq0.true) at))

pub returns-clause-value : goal.returns-clause-value
returns-clause-value g c =
    let there = rw c.in_ok-base.ensures.frame.kept at c.in_ok-cell.ensures.value in
    under_both c.args.patch.now.fresh (g.D.Disk.image c.args.disk.now) c.args.self.now.name.now _ _ _ c.in_ok-base.ensures.value there (λ file at here. c.value_for-2.ensures ∙ value_there c.args.patch.now file c.args.archive c.args.bucket c.archive-ring.result c.in_ok-base.base c.in_ok-cell.cell
    (rw c.requires.layout c.archive-ring.ensures.value) (grind (arith, c.is_bucket.ensures, c.if-not-is_bucket.false, c.if-not-is_bucket.ensures)) (grind (arith, c.if-base-eq0.false)) at
    (rw (← c.slot_of-slot.ensures.value) here))
