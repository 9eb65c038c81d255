use Rattle.std.proofs.Common.{◌≡◌, ◌≤◌, ◌-◌, ◌∙◌, ℕ, ℤ, pos, get_or, length, sym, ap, arith, rules}
use Rattle.archive_update.specs.Batch.{bucket_of}
use Rattle.archive_update.proofs.OwnLemmas.{latest_set, latest_push}
use Rattle.archive_update.proofs.own.put_latest.Goals as goal
use Rattle.archive_update.proofs.own.put_latest.Goals.{else-count-gt0-via-then-count-gt0+else-index-bucket, else-count-gt0-via-else-count-gt0}

pub returns-then-index-bucket : goal.returns-then-index-bucket
returns-then-index-bucket c =
    let count : c.len-count.result ≡ length c.args.writes.now.items = search rules in
    let there : (get_or c.args.writes.now.items (length c.args.writes.now.items - 1) c.index.result.now).0 ≡ (bucket_of c.args.step c.args.point.now.0) =
    rw (← count) (ap (λ (w : ℕ × ℤ). w.0) (sym c.index.ensures) ∙ c.if-index-bucket.true) in
    (rw count (latest_set c.args.writes.now.items ((bucket_of c.args.step c.args.point.now.0), c.args.point.now.1) c.index.result.now (omega arith) there))

pub returns : goal.returns
returns c =
    let count : c.len-count.result ≡ length c.args.writes.now.items = search rules in
    let push = c.in_ok-push.ensures.items in
    elim c.else-count-gt0.branch [
      | else-count-gt0-via-then-count-gt0+else-index-bucket w ↦ push ∙ latest_push c.args.writes.now.items ((bucket_of c.args.step c.args.point.now.0), c.args.point.now.1) w.index.result.now
          (λ some same. w.if-index-bucket.false (ap (λ (w : ℕ × ℤ). w.0) w.index.ensures ∙ ap (λ (n : ℕ). (get_or c.args.writes.now.items (n - 1) w.index.result.now).0) count ∙ same))
      | else-count-gt0-via-else-count-gt0 w ↦ push ∙ latest_push c.args.writes.now.items ((bucket_of c.args.step c.args.point.now.0), c.args.point.now.1) (0, pos 0) (λ some. absurd (let none : c.len-count.result ≤ 0 = w.if-count-gt0.false in omega arith))
    ]
