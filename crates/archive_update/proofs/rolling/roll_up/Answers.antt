use Rattle.std.proofs.Common.{◌+◌, ◌∙◌, refl, arith}
use Rattle.ring_archive.proofs.UnderLemmas.{under_all, under_both, under_map}
use Rattle.archive_update.proofs.LayLemmas.{alike_more, alike_same}
use Rattle.archive_update.proofs.MoveLemmas.{under_moved}
use Rattle.archive_update.proofs.RollLemmas.{rolls_all, rolls_more, rolls_start, rolls_stop}
use Rattle.archive_update.proofs.StepLemmas.{own_reached}
use Rattle.archive_update.proofs.rolling.roll_up.Goals as goal

pub loop-archive-init : goal.loop-archive-init
loop-archive-init g c = record {
  rolls = under_all c.args.patch.now.fresh (g.D.Disk.image c.args.disk.now) c.args.view.now.name.now c.args.view.now.version c.args.view.now.layout.archives _ c.requires.file.1 (λ file. rolls_start c.args.view.now.layout c.args.own.now c.args.patch.now c.args.from.archive file);
  based = c.requires.based;
  alike = alike_same c.args.patch.now;
  kept = refl;
  changes = refl;
  later = omega arith;
}

pub roll_level-requires-clause-own : goal.roll_level-requires-clause-own
roll_level-requires-clause-own g c =
    own_reached c.args.view.now.layout.archives c.args.view.now.layout.factor c.args.from.archive (c.loop-archive.archive + 1) c.args.own.now c.archive_count-archive-end.ensures.lawful (omega arith) (omega (arith, c.archive_count-archive-end.ensures.value)) c.requires.own

pub returns-in_default-clause-rolls : goal.returns-in_default-clause-rolls
returns-in_default-clause-rolls g c =
    let level = rw c.in_default.is at c.in_ok-coarser.ensures.level in
    let moved = under_moved c.args.patch.now.fresh c.loop-archive.patch.fresh (g.D.Disk.image c.args.disk.now) (g.D.Disk.image c.loop-archive.disk) c.args.view.now.name.now _ c.loop-archive.invariant.alike.fresh c.loop-archive.invariant.kept level in
    under_both c.args.patch.now.fresh (g.D.Disk.image c.args.disk.now) c.args.view.now.name.now _ _ _ c.loop-archive.invariant.rolls moved (λ file before level.
    rolls_stop c.args.view.now.layout c.args.own.now c.args.patch.now c.loop-archive.patch c.roll_level.new.patch c.args.from.archive c.loop-archive.archive file (omega (arith, c.archive_count-archive-end.ensures.value)) before level)

pub loop-archive-preserved : goal.loop-archive-preserved
loop-archive-preserved g c =
    let level = rw c.in-Some.is at c.in_ok-coarser.ensures.level in
    let moved = under_moved c.args.patch.now.fresh c.loop-archive.patch.fresh (g.D.Disk.image c.args.disk.now) (g.D.Disk.image c.loop-archive.disk) c.args.view.now.name.now _ c.loop-archive.invariant.alike.fresh c.loop-archive.invariant.kept level in
    record {
      rolls = under_both c.args.patch.now.fresh (g.D.Disk.image c.args.disk.now) c.args.view.now.name.now _ _ _ c.loop-archive.invariant.rolls moved (λ file before level.
          rolls_more c.args.view.now.layout c.args.own.now c.args.patch.now c.loop-archive.patch c.roll_level.new.patch c.args.from.archive c.loop-archive.archive file (omega (arith, c.archive_count-archive-end.ensures.value)) before level);
      based = rw c.in_ok-coarser.ensures.frame.kept (rw c.in-Some.is at c.in_ok-coarser.ensures.based);
      alike = alike_more c.args.patch.now c.loop-archive.patch c.roll_level.new.patch c.loop-archive.invariant.alike c.in_ok-coarser.ensures.alike;
      kept = c.in_ok-coarser.ensures.frame.kept ∙ c.loop-archive.invariant.kept;
      changes = c.in_ok-coarser.ensures.frame.changes ∙ c.loop-archive.invariant.changes;
      later = omega (arith, c.loop-archive.invariant.later, c.in_ok-coarser.ensures.frame.later);
    }

pub returns-clause-rolls : goal.returns-clause-rolls
returns-clause-rolls g c =
    under_map c.args.patch.now.fresh (g.D.Disk.image c.args.disk.now) c.args.view.now.name.now _ _ c.loop-archive.invariant.rolls (λ file.
    rolls_all c.args.view.now.layout c.args.own.now c.args.patch.now c.loop-archive.patch c.args.from.archive c.loop-archive.archive file (omega (arith, c.archive_count-archive-end.ensures.value)))
