-- Places in an order by a measure.
use Rattle.std.specs.Prelude.{ℤ, neg_ℤ, Option, Some, None}
use Rattle.series_pick.specs.declared.measures.First.{First}
use Rattle.series_pick.specs.declared.measures.First.TheVariants.{Greatest, Least}
use Rattle.series_pick.specs.declared.sorting.Place.{Place}
use Rattle.series_pick.specs.declared.sorting.Place.TheVariants.{Number, Last}

-- the place of a measure: what comes first has the least number
abbrev pub place_of : First → Option ℤ → Place
place_of Greatest (Some number) = Number (neg_ℤ number)
place_of Least (Some number) = Number number
place_of first None = Last
