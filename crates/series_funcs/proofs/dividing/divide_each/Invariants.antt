use Rattle.std.proofs.Common.{◌≡◌, Ok, All, [], ◌∷◌, ◌++◌, take}
use Rattle.series_funcs.specs.Combined.{IsSoonAfter}
use Rattle.series_funcs.specs.Divided.{divided}
use Rattle.series_funcs.specs.Each.{each_of}
use Rattle.series_funcs.proofs.dividing.divide_each.Given as goal

abbrev pub invariant-loop-dividend : goal.invariant-loop-dividend
invariant-loop-dividend l =
    (each_of (divided l.divisor) (take l.dividend-index l.dividends) ≡ Ok l.quotients.items)
    × All (IsSoonAfter (l.dividends ++ l.divisor ∷ [])) l.quotients.items
