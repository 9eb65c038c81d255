use Rattle.std.proofs.Common.{map, take}
use Rattle.metric_index.specs.Found.{IsFitted}
use Rattle.metric_index.specs.Searched.{PicksNames}
use Rattle.metric_index.proofs.searched.fitting_in.Given as goal

abbrev pub invariant-loop-path : goal.invariant-loop-path
invariant-loop-path l = PicksNames (IsFitted l.verdicts) (take l.path-index l.names) (map (λ path. path.now) l.fitting.items)
