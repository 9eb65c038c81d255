use Rattle.std.proofs.Common.{sym, arith, refl}
use Rattle.std.proofs.lemmas.List.FromFn.{map-range_with_len_more}
use Rattle.series_set.specs.OnGrid.{bucket_value}
use Rattle.series_set.proofs.PlaceLemmas.{bucket_of_run}
use Rattle.series_set.proofs.regrid.bucket_values.Goals as goal

pub loop-bucket-preserved : goal.loop-bucket-preserved
loop-bucket-preserved c =
    let so_far = c.loop-bucket.invariant in
    let value = bucket_of_run c.args.series.now c.args.grid c.loop-bucket._bucket c.loop-bucket.limit _ c.loop-bucket.from c.place_of-until.result so_far.1.0 c.place_of-until.ensures so_far.0 refl in (
      omega (arith, so_far.0),
      (
        c.place_of-until.ensures,
        rw (c.in_ok-push.ensures.items, so_far.1.1, c.of.ensures, c.average_of_run.ensures, value) (sym (map-range_with_len_more (bucket_value c.args.series.now c.args.grid) 0 c.loop-bucket._bucket c.loop-bucket._bucket (omega arith))),
      ),
    )
