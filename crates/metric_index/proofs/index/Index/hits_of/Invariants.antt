use Rattle.std.proofs.Common.{map, take}
use Rattle.metric_index.specs.Found.{seen}
use Rattle.metric_index.specs.Searched.{AreHits}
use Rattle.metric_index.proofs.index.Index.hits_of.Given as goal

abbrev pub invariant-loop-path : goal.invariant-loop-path
invariant-loop-path g l = AreHits l.self (map (λ path. path.now) (take l.path-index l.paths)) (map seen l.hits.items)
