use Rattle.std.proofs.Common.{◌≡◌, map, take}
use Rattle.metric_index.specs.Found.{seen as hit_seen}
use Rattle.metric_table.specs.Numbered.{known_by_all}
use Rattle.metric_table.specs.Table.{seen}
use Rattle.metric_table.proofs.found.metrics_of.Given as goal

abbrev pub invariant-loop-hit : goal.invariant-loop-hit
invariant-loop-hit l = map seen l.found.items ≡ known_by_all l.layouts (map hit_seen (take l.hit-index l.hits))
