use Rattle.std.proofs.Common.{refl, rules}
use Rattle.std.proofs.lemmas.Fn.{always_returns_same}
use Rattle.series_set.specs.Series.{SeriesValue}
use Rattle.series_pick.specs.Measures.{by_measure, measure_of}
use Rattle.series_pick.specs.Places.{place_of}
use Rattle.series_pick.specs.contracts.sorting.PlaceOrd.TheImpl.{ghosts}
use Rattle.series_pick.specs.declared.sorting.Place.{Place}
use Rattle.series_pick.proofs.OrderLemmas.{less_is, sorts_by_place, sorts_moved}
use Rattle.series_pick.proofs.sorting.sorted.Goals as goal

pub returns : goal.returns
returns c =
    let key : SeriesValue → Place = λ s. place_of c.args.first (measure_of c.args.measure s) in
    sorts_moved (by_measure c.args.measure c.args.first) _ _ _ _ c.into_vec-series.ensures c.from_vec.ensures
    (sorts_by_place ghosts.cmp less_is (λ a. refl) (λ a. refl) refl c.args.measure c.args.first _ _ c.in_ok-sort_by_cached_key.ensures.permutation
    (c.in_ok-sort_by_cached_key.ensures.sorted key (always_returns_same _ _ _ (λ a r f' k. search rules)))
    (c.in_ok-sort_by_cached_key.ensures.stable key (always_returns_same _ _ _ (λ a r f' k. search rules))))
