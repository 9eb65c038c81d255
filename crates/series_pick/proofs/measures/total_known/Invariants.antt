use Rattle.series_set.proofs.SumLemmas.{Totals}
use Rattle.series_pick.proofs.measures.total_known.Given as goal

abbrev pub invariant-loop-value : goal.invariant-loop-value
invariant-loop-value l = Totals l.values l.value-index l.sum l.count
