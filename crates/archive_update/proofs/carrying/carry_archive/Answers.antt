use Rattle.std.proofs.Common.{◌≡◌, ◌∙◌, false, Some, refl, sym, subst, arith}
use Rattle.std.specs.Prelude.{slice_get}
use Rattle.ring_format.specs.Layout.{LayoutValue}
use Rattle.ring_archive.proofs.UnderLemmas.{under_both, under_map}
use Rattle.archive_update.specs.Carried.{has_base}
use Rattle.archive_update.proofs.CarryLemmas.{base_read, carries_next, carries_over, none_read}
use Rattle.archive_update.proofs.LayLemmas.{alike_more, alike_same}
use Rattle.archive_update.proofs.MoveLemmas.{under_moved}
use Rattle.archive_update.proofs.carrying.carry_archive.Goals as goal

pub returns-then-first-eq0-clause-carries : goal.returns-then-first-eq0-clause-carries
returns-then-first-eq0-clause-carries g c =
    under_map false (g.D.Disk.image c.args.disk.now) c.args.view.now.name.now _ _ c.in_ok-first.ensures.value (λ file at.
    carries_over c.args.patch.now file c.args.archive
    (subst (λ (l : LayoutValue). has_base l.archives file c.args.archive ≡ false) (sym c.requires.layout) (none_read c.args.view.now.layout.archives file c.args.archive c.in_ok-first.first at c.if-first-eq0.true)))

pub loop-slot-init : goal.loop-slot-init
loop-slot-init g c = record {
  within = omega arith;
  carries = under_map false (g.D.Disk.image c.args.disk.now) c.args.view.now.name.now _ _ c.requires.file.1 (λ file room based so_far. so_far);
  alike = alike_same c.args.patch.now;
  kept = c.in_ok-first.ensures.frame.kept;
  changes = c.in_ok-first.ensures.frame.changes;
  later = c.in_ok-first.ensures.frame.later;
}

pub loop-slot-preserved : goal.loop-slot-preserved
loop-slot-preserved g c =
    let here = under_moved false false (g.D.Disk.image c.args.disk.now) (g.D.Disk.image c.loop-slot.disk) c.args.view.now.name.now _ refl c.loop-slot.invariant.kept c.in_ok-carry_stretch.ensures.carries in
    record {
      within = omega (arith, c.min-count.ensures);
      carries = under_both false (g.D.Disk.image c.args.disk.now) c.args.view.now.name.now _ _ _ c.loop-slot.invariant.carries here (λ file before next based so_far. next based (before based so_far));
      alike = alike_more c.args.patch.now c.loop-slot.patch c.carry_stretch.new.patch c.loop-slot.invariant.alike c.in_ok-carry_stretch.ensures.alike;
      kept = c.in_ok-carry_stretch.ensures.frame.kept ∙ c.loop-slot.invariant.kept;
      changes = c.in_ok-carry_stretch.ensures.frame.changes ∙ c.loop-slot.invariant.changes;
      later = omega (arith, c.loop-slot.invariant.later, c.in_ok-carry_stretch.ensures.frame.later);
    }

pub returns-clause-carries : goal.returns-clause-carries
returns-clause-carries g c =
    let layout = c.loop-slot.invariant.alike.layout ∙ c.requires.layout in
    let there : slice_get c.loop-slot.patch.layout.archives c.args.archive ≡ Some c.archive-points.result = subst (λ (l : LayoutValue). slice_get l.archives c.args.archive ≡ Some c.archive-points.result) (sym layout) c.archive-points.ensures.value in
    under_both false (g.D.Disk.image c.args.disk.now) c.args.view.now.name.now _ _ _ c.in_ok-first.ensures.value c.loop-slot.invariant.carries (λ file at done so_far.
    carries_next c.loop-slot.patch file c.args.archive c.loop-slot.slot c.archive-points.result there c.loop-slot-test.false
    (done (base_read c.args.view.now.layout.archives file c.args.archive c.in_ok-first.first at c.if-first-eq0.false) so_far))
