use Rattle.std.proofs.Common.{◌≡◌, map, take}
use Rattle.series_funcs.specs.Divided.{undivided}
use Rattle.series_funcs.proofs.dividing.undivided_all.Given as goal

abbrev pub invariant-loop-dividend : goal.invariant-loop-dividend
invariant-loop-dividend l = l.quotients.items ≡ map (undivided l.tail) (take l.dividend-index l.dividends)
