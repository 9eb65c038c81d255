use Rattle.std.proofs.Common.{◌≡◌, None, map, take}
use Rattle.series_funcs.proofs.dividing.all_missing.Given as goal

abbrev pub invariant-loop-value : goal.invariant-loop-value
invariant-loop-value l = l.missing.items ≡ map (λ _. None) (take l._value-index l.values)
