use Rattle.std.proofs.Common.{◌∙◌, false, refl, arith}
use Rattle.ring_archive.proofs.UnderLemmas.{under_both, under_map}
use Rattle.archive_update.proofs.CarryLemmas.{carries_all, carries_none}
use Rattle.archive_update.proofs.LayLemmas.{alike_more, alike_same}
use Rattle.archive_update.proofs.MoveLemmas.{under_moved}
use Rattle.archive_update.proofs.carrying.carry_all.Goals as goal

pub loop-archive-init : goal.loop-archive-init
loop-archive-init g c = record {
  carries = under_map false (g.D.Disk.image c.args.disk.now) c.args.view.now.name.now _ _ c.requires.file.1 (λ file room. carries_none c.args.patch.now file c.requires.patch.empty);
  alike = alike_same c.args.patch.now;
  kept = refl;
  changes = refl;
  later = omega arith;
}

pub loop-archive-preserved : goal.loop-archive-preserved
loop-archive-preserved g c =
    let here = under_moved false false (g.D.Disk.image c.args.disk.now) (g.D.Disk.image c.loop-archive.disk) c.args.view.now.name.now _ refl c.loop-archive.invariant.kept c.in_ok-carry_archive.ensures.carries in
    record {
      carries = under_both false (g.D.Disk.image c.args.disk.now) c.args.view.now.name.now _ _ _ c.loop-archive.invariant.carries here (λ file before next. next before);
      alike = alike_more c.args.patch.now c.loop-archive.patch c.carry_archive.new.patch c.loop-archive.invariant.alike c.in_ok-carry_archive.ensures.alike;
      kept = c.in_ok-carry_archive.ensures.frame.kept ∙ c.loop-archive.invariant.kept;
      changes = c.in_ok-carry_archive.ensures.frame.changes ∙ c.loop-archive.invariant.changes;
      later = omega (arith, c.loop-archive.invariant.later, c.in_ok-carry_archive.ensures.frame.later);
    }

pub returns-clause-carries : goal.returns-clause-carries
returns-clause-carries g c =
    under_both false (g.D.Disk.image c.args.disk.now) c.args.view.now.name.now _ _ _ c.requires.file.1 c.loop-archive.invariant.carries (λ file room done.
    carries_all c.args.patch.now c.loop-archive.patch c.args.view.now.layout file c.loop-archive.archive c.requires.patch c.loop-archive.invariant.alike (omega (arith, c.archive_count-archive-end.ensures.value))
    c.archive_count-archive-end.ensures.lawful (room.0 ∙ c.requires.version) done)
