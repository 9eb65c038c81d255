use Rattle.std.proofs.Common.{◌≡◌, ◌∙◌, ℕ, length, refl, sym, subst, arith, add-one}
use Rattle.ring_archive.proofs.UnderLemmas.{under_all, under_both}
use Rattle.ring_archive.specs.Ring.{UnderPatch}
use Rattle.archive_update.specs.Rolled.{PlansFirst}
use Rattle.archive_update.proofs.LayLemmas.{alike_more, alike_same}
use Rattle.archive_update.proofs.MoveLemmas.{under_moved}
use Rattle.archive_update.proofs.PlanLemmas.{none_more, plans_more}
use Rattle.archive_update.proofs.planning.plan_all.Goals as goal

pub loop-archive-init : goal.loop-archive-init
loop-archive-init g c = record {
  plans = under_all c.args.patch.now.fresh (g.D.Disk.image c.args.disk.now) c.args.view.now.name.now c.args.view.now.version c.args.view.now.layout.archives _ c.requires.file.1 (λ file rings reads. reads);
  filled = λ none i lt. absurd (omega arith);
  untouched = λ none. refl;
  alike = alike_same c.args.patch.now;
  kept = refl;
  changes = refl;
  later = omega arith;
}

pub loop-archive-preserved : goal.loop-archive-preserved
loop-archive-preserved g c =
    let here = under_moved c.args.patch.now.fresh c.loop-archive.patch.fresh (g.D.Disk.image c.args.disk.now) (g.D.Disk.image c.loop-archive.disk) c.args.view.now.name.now _ c.loop-archive.invariant.alike.fresh c.loop-archive.invariant.kept c.in_ok-plan_archive.ensures.plans in
    record {
      plans = under_both c.args.patch.now.fresh (g.D.Disk.image c.args.disk.now) c.args.view.now.name.now _ _ _ c.loop-archive.invariant.plans here (λ file before here.
          subst (λ (n : ℕ). PlansFirst c.args.view.now.layout c.args.now c.args.points.now c.args.patch.now c.plan_archive.new.patch n file) (sym (add-one c.loop-archive.archive))
          (plans_more c.args.view.now.layout c.args.now c.args.points.now c.args.patch.now c.loop-archive.patch c.plan_archive.new.patch c.loop-archive.archive file before here));
      filled = λ none. none_more c.args.view.now.layout c.args.now c.args.points.now c.loop-archive.archive (c.loop-archive.invariant.filled (c.in_ok-plan_archive.ensures.alike.grows none)) (c.in_ok-plan_archive.ensures.cells.filled none);
      untouched = λ none. c.in_ok-plan_archive.ensures.cells.untouched (none c.loop-archive.archive (omega arith)) ∙ c.loop-archive.invariant.untouched (λ i lt. none i (omega arith));
      alike = alike_more c.args.patch.now c.loop-archive.patch c.plan_archive.new.patch c.loop-archive.invariant.alike c.in_ok-plan_archive.ensures.alike;
      kept = c.in_ok-plan_archive.ensures.frame.kept ∙ c.loop-archive.invariant.kept;
      changes = c.in_ok-plan_archive.ensures.frame.changes ∙ c.loop-archive.invariant.changes;
      later = omega (arith, c.loop-archive.invariant.later, c.in_ok-plan_archive.ensures.frame.later);
    }

pub returns-clause-plans : goal.returns-clause-plans
returns-clause-plans g c =
    let end : c.loop-archive.archive ≡ length c.args.view.now.layout.archives = omega (arith, c.archive_count-archive-end.ensures.value) in
    subst (λ (n : ℕ). UnderPatch c.args.patch.now.fresh (g.D.Disk.image c.args.disk.now) c.args.view.now.name.now (PlansFirst c.args.view.now.layout c.args.now c.args.points.now c.args.patch.now c.loop-archive.patch n)) end c.loop-archive.invariant.plans

pub returns-clause-filled : goal.returns-clause-filled
returns-clause-filled g c =
    let end : c.loop-archive.archive ≡ length c.args.view.now.layout.archives = omega (arith, c.archive_count-archive-end.ensures.value) in
    λ none i lt. c.loop-archive.invariant.filled none i (omega arith)

pub returns-clause-untouched : goal.returns-clause-untouched
returns-clause-untouched g c =
    let end : c.loop-archive.archive ≡ length c.args.view.now.layout.archives = omega (arith, c.archive_count-archive-end.ensures.value) in
    λ none. c.loop-archive.invariant.untouched (λ i lt. none i (omega arith))
