use Rattle.std.proofs.Common.{sym, arith, refl}
use Rattle.std.proofs.lemmas.List.FromFn.{map-range_with_len_more}
use Rattle.series_set.proofs.PlaceLemmas.{places_in_order}
use Rattle.series_funcs.specs.Moved.{summary_at}
use Rattle.series_funcs.proofs.SummaryLemmas.{summary_of_run}
use Rattle.series_funcs.proofs.summary.summary_values.Goals as goal

pub put_run-requires-clause-order : goal.put_run-requires-clause-order
put_run-requires-clause-order c =
    places_in_order c.args.series.now c.loop-bucket.limit _ c.loop-bucket.from c.place_of-until.result c.loop-bucket.invariant.1.0 c.place_of-until.ensures (omega arith)

pub loop-bucket-preserved : goal.loop-bucket-preserved
loop-bucket-preserved c =
    let so_far = c.loop-bucket.invariant in
    let value = summary_of_run c.args.gather c.args.series.now c.args.grid c.loop-bucket._bucket c.loop-bucket.limit _ c.loop-bucket.from c.place_of-until.result so_far.1.0 c.place_of-until.ensures so_far.0 refl in (
      omega (arith, so_far.0),
      (
        c.place_of-until.ensures,
        rw (c.in_ok-push.ensures.items, so_far.1.1, c.of.ensures, c.gathered.ensures, c.deref.ensures.value, c.in_ok-put_run.ensures.ok, value)
            (sym (map-range_with_len_more (summary_at c.args.gather c.args.series.now c.args.grid) 0 c.loop-bucket._bucket c.loop-bucket._bucket (omega arith))),
      ),
    )
