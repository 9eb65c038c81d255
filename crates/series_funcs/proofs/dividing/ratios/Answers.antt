use Rattle.series_funcs.proofs.RatioLemmas.{ratios_more}
use Rattle.series_funcs.proofs.dividing.ratios.Goals as goal

pub loop-place-preserved : goal.loop-place-preserved
loop-place-preserved c =
    rw (c.in_ok-push.ensures.items, c.loop-place.invariant, c.of.ensures, c.ratio_of-value.ensures, c.value_at.ensures, c.value_at-in-loop-place.ensures)
    (ratios_more c.args.dividend.now c.args.divisor.now c.loop-place.place)
