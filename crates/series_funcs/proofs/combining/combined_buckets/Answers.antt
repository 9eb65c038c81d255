use Rattle.std.proofs.Common.{arith, ap, length}
use Rattle.series_funcs.specs.Combined.{all_on}
use Rattle.series_funcs.proofs.ColumnLemmas.{length-known_column}
use Rattle.series_funcs.proofs.BucketColumns.{buckets_more, length-all_on}
use Rattle.series_funcs.proofs.combining.combined_buckets.Goals as goal

pub combined_known-value-requires : goal.combined_known-value-requires
combined_known-value-requires c =
    omega (arith, ap length c.deref.ensures.value, ap length c.in_ok-gather_bucket.ensures, length-known_column (all_on c.args.series.now c.args.grid.now) c.loop-bucket.bucket, length-all_on c.args.series.now c.args.grid.now, c.requires.few)

pub loop-bucket-preserved : goal.loop-bucket-preserved
loop-bucket-preserved c =
    rw (c.in_ok-push.ensures.items, c.loop-bucket.invariant, c.of.ensures, c.combined_known-value.ensures, c.deref.ensures.value, c.in_ok-gather_bucket.ensures)
    (buckets_more c.args.kind c.args.series.now c.args.grid.now c.loop-bucket.bucket)
