use Rattle.std.proofs.Common.{◌≡◌, None, take}
use Rattle.series_set.specs.CommonGrid.{first_wide}
use Rattle.series_funcs.specs.Divided.{pairs_with}
use Rattle.series_funcs.proofs.dividing.check_pairs.Given as goal

abbrev pub invariant-loop-dividend : goal.invariant-loop-dividend
invariant-loop-dividend l = first_wide (pairs_with l.divisor (take l.dividend-index l.dividends)) ≡ None
