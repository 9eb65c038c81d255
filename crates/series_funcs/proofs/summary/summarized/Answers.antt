use Rattle.std.proofs.Common.{sym, subst, arith}
use Rattle.series_set.specs.CommonGrid.{IsWhole}
use Rattle.series_set.proofs.GridLemmas.{widened_is}
use Rattle.series_funcs.proofs.summary.summarized.Goals as goal

pub short-requires : goal.short-requires
short-requires c = subst IsWhole (sym c.widened.ensures) (widened_is _ (omega (arith, c.from.ensures, c.requires.step.0)) (omega (arith, c.start.ensures, c.end.ensures.value)))
