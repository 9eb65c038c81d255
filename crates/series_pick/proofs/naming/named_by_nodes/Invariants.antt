use Rattle.std.proofs.Common.{◌≡◌, map}
use Rattle.series_pick.specs.Chosen.{renamed_by_nodes}
use Rattle.series_pick.proofs.naming.named_by_nodes.Given as goal

abbrev pub invariant-loop-one : goal.invariant-loop-one
invariant-loop-one l = l.named.items ≡ map (renamed_by_nodes l.numbers) l.yielded
