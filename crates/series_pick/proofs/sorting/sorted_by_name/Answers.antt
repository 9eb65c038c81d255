use Rattle.std.proofs.Common.{rules}
use Rattle.std.proofs.lemmas.Fn.{always_returns_same}
use Rattle.series_pick.specs.Chosen.{by_name}
use Rattle.series_pick.proofs.OrderLemmas.{by_name_ranks, sorts_moved}
use Rattle.series_pick.proofs.sorting.sorted_by_name.Goals as goal

pub returns : goal.returns
returns c = sorts_moved by_name _ _ _ _ c.into_vec-series.ensures c.from_vec.ensures (record {
  same = c.in_ok-sort_by.ensures.permutation;
  ordered = c.in_ok-sort_by.ensures.sorted by_name by_name_ranks (always_returns_same _ _ _ (λ a r f' k. search rules));
  stable = c.in_ok-sort_by.ensures.stable by_name by_name_ranks (always_returns_same _ _ _ (λ a r f' k. search rules));
})
