use Rattle.std.proofs.Common.{◌≡◌, ◌∙◌, ℕ, ℤ, true, Bool, ap, get_or, subst, sym}
use Rattle.fixed_num.specs.Moment.{is_moment}
use Rattle.archive_update.specs.Batch.{bucket_of, bucket_writes, archive_for, is_home, latest_of_each, step_of}
use Rattle.archive_update.specs.Buckets.{IsOwn, with_latest}
use Rattle.archive_update.proofs.OwnLemmas.{latest_all, moment_is_short, more_home, more_elsewhere, own_bucket}
use Rattle.archive_update.proofs.RisingLemmas.{nothing_kept}
use Rattle.archive_update.proofs.own.bucket_writes.Goals as goal
use Rattle.archive_update.proofs.own.bucket_writes.Goals.{then-holds+in_ok-put_latest, else-holds}

pub returns-then-not-meets-clause-writes : goal.returns-then-not-meets-clause-writes
unfolding bucket_writes
returns-then-not-meets-clause-writes c =
    let test : ℕ × ℤ → Bool = λ p. is_home c.args.archive (archive_for c.args.layout.now.archives c.args.now p.0) in
    let none = c.meets.ensures c.if-not-meets.true in
    c.new.ensures.items
    ∙ ap (latest_of_each (step_of c.args.layout.now.archives c.args.archive)) (sym (nothing_kept test c.args.points.now (λ k d lt.
    sym (rw c.archives.ensures.value at c.new-span.ensures (get_or c.args.points.now k d).0 (moment_is_short (get_or c.args.points.now k d).0 (c.requires.moments k d lt))) ∙ none k d lt)))

pub loop-point-preserved : goal.loop-point-preserved
loop-point-preserved c =
    let test : ℕ × ℤ → Bool = λ p. is_home c.args.archive (archive_for c.args.layout.now.archives c.args.now p.0) in
    let step : ℕ = c.archive-step.result.step in
    let point : ℕ × ℤ = c.point-item.result in
    let there : ℕ × ℤ = get_or c.args.points.now c.loop-point.point-index point in
    let same : point ≡ there = c.point-item.is in
    let moment : is_moment point.0 ≡ true = subst (λ (p : ℕ × ℤ). is_moment p.0 ≡ true) (sym same) (c.requires.moments c.loop-point.point-index point c.loop-point-test.true) in
    let asked : c.holds.result ≡ test point = c.holds.ensures ∙ rw c.archives.ensures.value at c.new-span.ensures point.0 (moment_is_short point.0 moment) in
    elim c.if-holds.branch [
      | then-holds+in_ok-put_latest w ↦
          rw w.writes-is (record {
            writes = more_home step test c.args.points.now c.loop-point.point-index point c.loop-point.writes.items _ c.loop-point-test.true c.loop-point.invariant.writes (ap test (sym same) ∙ sym asked ∙ w.if-holds.true)
                (w.in_ok-put_latest.ensures ∙ ap (λ (p : ℕ × ℤ). with_latest c.loop-point.writes.items (bucket_of step p.0, p.1)) same);
            buckets = rw w.in_ok-put_latest.ensures (latest_all (λ write. IsOwn step write.0) c.loop-point.writes.items (bucket_of step point.0, point.1) c.loop-point.invariant.buckets
                (own_bucket step point.0 c.archive-step.ensures.step.0 c.archive-step.ensures.step.1 moment));
          })
      | else-holds w ↦
          rw w.writes-is (record {
            writes = more_elsewhere step test c.args.points.now c.loop-point.point-index point c.loop-point.writes.items c.loop-point-test.true c.loop-point.invariant.writes (ap test (sym same) ∙ sym asked ∙ w.if-holds.false);
            buckets = c.loop-point.invariant.buckets;
          })
    ]
