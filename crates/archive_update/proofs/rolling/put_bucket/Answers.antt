use Rattle.std.proofs.Common.{◌≡◌, ◌≤◌, ◌-◌, ◌∙◌, ℕ, true, false, get_or, length, sym, ap, arith, rules}
use Rattle.archive_update.specs.Batch.{bucket_of}
use Rattle.archive_update.proofs.BucketLemmas.{bucket_push, bucket_same}
use Rattle.archive_update.proofs.rolling.put_bucket.Goals as goal
use Rattle.archive_update.proofs.rolling.put_bucket.Goals.{else-count-gt0-via-then-count-gt0+else-is_in_bucket, else-count-gt0-via-else-count-gt0}

pub returns-then-is_in_bucket : goal.returns-then-is_in_bucket
returns-then-is_in_bucket c =
    let count : c.len-count.result ≡ length c.args.buckets.now.items = search rules in
    let there : get_or c.args.buckets.now.items (length c.args.buckets.now.items - 1) c.index.result.now ≡ bucket_of c.args.step c.args.time =
    rw (← count) (sym c.index.ensures ∙ c.is_in_bucket.ensures.0 c.if-is_in_bucket.true) in
    bucket_same c.args.buckets.now.items (bucket_of c.args.step c.args.time) c.index.result.now (omega arith) there

pub returns : goal.returns
returns c =
    let count : c.len-count.result ≡ length c.args.buckets.now.items = search rules in
    let push = c.in_ok-push.ensures.items in
    elim c.else-count-gt0.branch [
      | else-count-gt0-via-then-count-gt0+else-is_in_bucket w ↦ push ∙ bucket_push c.args.buckets.now.items (bucket_of c.args.step c.args.time) w.index.result.now
          (λ some same. absurd (let clash : true ≡ false = sym (w.is_in_bucket.ensures.1 (w.index.ensures ∙ ap (λ (n : ℕ). get_or c.args.buckets.now.items (n - 1) w.index.result.now) count ∙ same)) ∙ w.if-is_in_bucket.false in cc))
      | else-count-gt0-via-else-count-gt0 w ↦ push ∙ bucket_push c.args.buckets.now.items (bucket_of c.args.step c.args.time) 0 (λ some. absurd (let none : c.len-count.result ≤ 0 = w.if-count-gt0.false in omega arith))
    ]
