use Rattle.std.proofs.Common.{◌≡◌, map, string_bytes}
use Rattle.series_pick.specs.Chosen.{renamed}
use Rattle.series_pick.proofs.naming.all_named.Given as goal

abbrev pub invariant-loop-one : goal.invariant-loop-one
invariant-loop-one l = l.named.items ≡ map (renamed (string_bytes l.name)) l.yielded
