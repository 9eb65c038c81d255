use Rattle.std.proofs.Common.{◌≡◌, ◌∙◌, ℕ, ℤ, List, All, ◌%◌, eqb, get_or, map, sym, ap, subst}
use Rattle.std.specs.List.{dedup}
use Rattle.std.proofs.lemmas.List.{take_all}
use Rattle.std.proofs.lemmas.List.Elements.{All-weaker}
use Rattle.archive_update.specs.Batch.{bucket_of, buckets_of_writes, step_of}
use Rattle.archive_update.specs.Buckets.{IsShown, with_bucket}
use Rattle.archive_update.specs.Rolled.{IsReached}
use Rattle.archive_update.proofs.BucketLemmas.{bucket_all, bucket_more}
use Rattle.archive_update.proofs.RollLemmas.{step_of_found}
use Rattle.archive_update.proofs.StepLemmas.{reached_bucket}
use Rattle.archive_update.proofs.rolling.coarse_buckets.Goals as goal

pub put_bucket-requires-clause-whole : goal.put_bucket-requires-clause-whole
put_bucket-requires-clause-whole c =
    All-weaker (IsShown c.archive-step.result.step) (λ bucket. bucket % c.archive-step.result.step ≡ 0) (λ bucket shown. shown.multiple.1) c.loop-write.buckets.items c.loop-write.invariant.shown

pub loop-write-preserved : goal.loop-write-preserved
loop-write-preserved c =
    let step : step_of c.args.layout.now.archives c.args.archive ≡ c.archive-step.result.step = step_of_found c.args.layout.now.archives c.args.archive c.archive-step.result c.archive-step.ensures.value in
    let write : ℕ × ℤ = c.write-item.result in
    let there : ℕ × ℤ = get_or c.args.own.now c.loop-write.write-index write in
    let same : write ≡ there = c.write-item.is in
    let reached : IsReached c.archive-step.result.step there.0 = subst (λ (step : ℕ). IsReached step there.0) step (c.requires.own c.loop-write.write-index write c.loop-write-test.true) in
    let put : c.put_bucket.new.buckets.items ≡ with_bucket c.loop-write.buckets.items (bucket_of c.archive-step.result.step there.0) =
    c.in_ok-put_bucket.ensures ∙ ap (λ (write : ℕ × ℤ). with_bucket c.loop-write.buckets.items (bucket_of c.archive-step.result.step write.0)) same in
    record {
      value = bucket_more c.archive-step.result.step c.args.own.now c.loop-write.write-index write c.loop-write.buckets.items c.put_bucket.new.buckets.items c.loop-write-test.true c.loop-write.invariant.value put;
      shown = rw put (bucket_all (IsShown c.archive-step.result.step) c.loop-write.buckets.items (bucket_of c.archive-step.result.step there.0) c.loop-write.invariant.shown
          (reached_bucket c.archive-step.result.step there.0 c.archive-step.ensures.step.0 reached));
    }

pub returns-clause-value : goal.returns-clause-value
unfolding buckets_of_writes
returns-clause-value c =
    let step : step_of c.args.layout.now.archives c.args.archive ≡ c.archive-step.result.step = step_of_found c.args.layout.now.archives c.args.archive c.archive-step.result c.archive-step.ensures.value in
    c.loop-write.invariant.value
    ∙ ap (λ (writes : List (ℕ × ℤ)). dedup eqb (map (λ write. bucket_of c.archive-step.result.step write.0) writes)) (take_all c.loop-write.write-index c.args.own.now c.loop-write-test.false)
    ∙ ap (λ (step : ℕ). dedup eqb (map (λ (write : ℕ × ℤ). bucket_of step write.0) c.args.own.now)) (sym step)

pub returns-clause-shown : goal.returns-clause-shown
returns-clause-shown c =
    let step : step_of c.args.layout.now.archives c.args.archive ≡ c.archive-step.result.step = step_of_found c.args.layout.now.archives c.args.archive c.archive-step.result c.archive-step.ensures.value in
    subst (λ (step : ℕ). All (IsShown step) c.loop-write.buckets.items) (sym step) c.loop-write.invariant.shown
