use Rattle.std.proofs.Common.{map}
use Rattle.path_glob.specs.Laws.{literal_front}
use Rattle.metric_index.specs.Found.{IsFitted, seen}
use Rattle.metric_index.proofs.WalkLemmas.{Walks}
use Rattle.metric_index.proofs.finding.fitted.Given as goal

abbrev pub invariant-loop-path : goal.invariant-loop-path
invariant-loop-path g l = Walks (IsFitted l.glob) (literal_front l.glob.text) l.fn.entries l.path-iterator (map seen l.hits.items)
