use Rattle.std.proofs.Common.{sym, arith}
use Rattle.std.proofs.lemmas.List.FromFn.{map-range_with_len_more}
use Rattle.series_funcs.specs.Shaped.{delayed_at}
use Rattle.series_funcs.proofs.looking_back.delayed.Goals as goal

pub loop-place-preserved : goal.loop-place-preserved
loop-place-preserved c =
    rw (c.in_ok-push.ensures.items, c.loop-place.invariant, c.of.ensures, c.delayed_at.ensures)
    (sym (map-range_with_len_more (delayed_at c.args.places c.args.values.now) 0 c.loop-place.place c.loop-place.place (omega arith)))
