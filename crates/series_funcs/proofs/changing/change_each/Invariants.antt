use Rattle.std.proofs.Common.{◌≡◌, ◌++◌, map, take, drop}
use Rattle.series_funcs.specs.Shaped.{changed_value}
use Rattle.series_funcs.proofs.changing.change_each.Given as goal

abbrev pub invariant-loop-place : goal.invariant-loop-place
invariant-loop-place l = l.values.items ≡ map (changed_value l.change) (take l.place l.initial.values.items) ++ drop l.place l.initial.values.items
