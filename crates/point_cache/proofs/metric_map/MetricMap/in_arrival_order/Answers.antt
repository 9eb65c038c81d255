use Rattle.std.proofs.Common.{sym}
use Rattle.std.proofs.lemmas.List.Sorted.{IsNonDecreasingBy-from_sort}
use Rattle.point_cache.specs.declared.arrivals.Arrival.{Arrival}
use Rattle.point_cache.proofs.ArrivalLemmas.{not_lt_first, sorted_arrivals}
use Rattle.point_cache.proofs.metric_map.MetricMap.in_arrival_order.Goals as goal

pub returns : goal.returns
returns c =
    let es = c.self.inside.entries.entries in
    let rises = IsNonDecreasingBy-from_sort (λ (a : Arrival). a.number) c.sort_unstable.new.self.items (λ k d low high. not_lt_first _ _ (c.sort_unstable.ensures.sorted k d low high)) in
    rw (sym c.self.view_is, c.new.ensures)
    (sorted_arrivals es c.self.inside.next c.in_ok-arrivals.arrivals.items c.sort_unstable.new.self.items c.self.invariant c.in_ok-arrivals.ensures c.sort_unstable.ensures.permutation rises)
