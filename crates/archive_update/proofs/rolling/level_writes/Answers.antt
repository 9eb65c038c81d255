use Rattle.std.proofs.Common.{◌≤◌, ◌+◌, ◌-◌, ◌∙◌, ℕ, length, get_or, refl, ap, subst, arith}
use Rattle.std.proofs.lemmas.List.{take_all}
use Rattle.ring_archive.proofs.UnderLemmas.{under_all, under_both, under_map}
use Rattle.archive_update.specs.Batch.{level_writes, step_of}
use Rattle.archive_update.specs.Rolled.{IsInWindow, places_in}
use Rattle.archive_update.proofs.RollLemmas.{write_shown, level_more, level_start, nothing_held, step_of_found}
use Rattle.archive_update.proofs.MoveLemmas.{under_moved}
use Rattle.archive_update.proofs.WindowLemmas.{first_of_rest, window_value}
use Rattle.archive_update.proofs.rolling.level_writes.Goals as goal

pub loop-k-init : goal.loop-k-init
loop-k-init g c =
    let steps = step_of_found c.args.view.now.layout.archives (c.args.finer.archive + 1) c.archive-step.result c.archive-step.ensures.value in
    record {
      writes = under_all c.args.patch.now.fresh (g.D.Disk.image c.args.disk.now) c.args.view.now.name.now c.args.view.now.version c.args.view.now.layout.archives _ c.requires.file.1 (λ file rings reads. c.in_ok-writes.ensures.items ∙ level_start c.args.view.now.layout rings c.args.finer.archive);
      shown = rw c.in_ok-writes.ensures.items (λ k d lt. absurd (omega arith));
      held = record {
        exact = rw steps (let some : 1 ≤ c.archive-step.result.step = c.archive-step.ensures.step.0 in omega arith);
        held = under_all c.args.patch.now.fresh (g.D.Disk.image c.args.disk.now) c.args.view.now.name.now c.args.view.now.version c.args.view.now.layout.archives _ c.requires.file.1 (λ file. c.new.ensures.items ∙ nothing_held c.args.patch.now file c.args.finer.archive 0 (places_in c.args.view.now.layout c.args.finer.archive));
      };
      kept = refl;
      changes = refl;
      later = omega arith;
    }

pub loop-k-preserved : goal.loop-k-preserved
loop-k-preserved g c =
    let lt = c.loop-k-test.true in
    let held = under_moved c.args.patch.now.fresh c.args.patch.now.fresh (g.D.Disk.image c.args.disk.now) (g.D.Disk.image c.loop-k.disk) c.args.view.now.name.now _ refl c.loop-k.invariant.kept c.in_ok-window.ensures.held.held in
    let shown = c.requires.shown c.loop-k.k 0 lt in
    let steps = step_of_found c.args.view.now.layout.archives (c.args.finer.archive + 1) c.archive-step.result c.archive-step.ensures.value in
    let has = subst (λ (bucket : ℕ). IsInWindow (step_of c.args.view.now.layout.archives (c.args.finer.archive + 1)) c.in_ok-window.window.first c.in_ok-window.window.count bucket) (first_of_rest c.args.buckets.now c.loop-k.k (length c.args.buckets.now - c.loop-k.k) (omega arith)) c.in_ok-window.ensures.has in
    record {
      writes = under_both c.args.patch.now.fresh (g.D.Disk.image c.args.disk.now) c.args.view.now.name.now _ _ _ c.loop-k.invariant.writes held (λ file before held rings reads.
          level_more c.args.view.now.layout rings c.args.finer.archive c.args.buckets.now c.loop-k.k c.in_ok-value.value c.loop-k.writes.items _ lt (before rings reads)
          (c.in_ok-value.ensures ∙ window_value c.args.patch.now c.args.view.now.layout file c.args.finer.archive c.in_ok-window.window.first c.in_ok-window.window.count c.points_per_bucket-places.result c.archive-step.result.step (get_or c.args.buckets.now c.loop-k.k 0) rings c.in_ok-window.window.values.items
          c.requires.layout c.requires.finer.coarser.archive reads held (rw steps at has) c.archive-step.ensures.step.0 (rw steps at c.in_ok-window.ensures.held.exact) (rw steps at shown.multiple.1) c.points_per_bucket-places.ensures.value (c.points_per_bucket-places.ensures.exact ∙ steps))
          c.in_ok-push_rolled.ensures);
      shown = rw c.in_ok-push_rolled.ensures (write_shown (step_of c.args.view.now.layout.archives (c.args.finer.archive + 1)) (get_or c.args.buckets.now c.loop-k.k 0) c.in_ok-value.value c.loop-k.writes.items c.loop-k.invariant.shown shown);
      held = record { exact = c.in_ok-window.ensures.held.exact; held = held };
      kept = c.in_ok-window.ensures.frame.kept ∙ c.loop-k.invariant.kept;
      changes = c.in_ok-window.ensures.frame.changes ∙ c.loop-k.invariant.changes;
      later = omega (arith, c.loop-k.invariant.later, c.in_ok-window.ensures.frame.later);
    }

pub returns-clause-writes : goal.returns-clause-writes
returns-clause-writes g c =
    let whole = take_all c.loop-k.k c.args.buckets.now c.loop-k-test.false in
    under_map c.args.patch.now.fresh (g.D.Disk.image c.args.disk.now) c.args.view.now.name.now _ _ c.loop-k.invariant.writes (λ file are rings reads. are rings reads ∙ ap (level_writes c.args.view.now.layout rings c.args.finer.archive) whole)
