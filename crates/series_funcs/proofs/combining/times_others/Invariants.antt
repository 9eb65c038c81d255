use Rattle.std.proofs.Common.{◌≡◌, Some, fold, take}
use Rattle.series_funcs.specs.Combined.{times_next}
use Rattle.series_funcs.proofs.combining.times_others.Given as goal

abbrev pub invariant-loop-factor : goal.invariant-loop-factor
invariant-loop-factor l = Some l.product ≡ fold times_next (Some l.fn.first) (take l.factor-index l.others)
