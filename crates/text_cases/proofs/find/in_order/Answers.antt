use Rattle.std.proofs.lemmas.Cmp.{nat_list_cmp_total}
use Rattle.std.proofs.lemmas.List.Filters.{dedup_is}
use Rattle.find_api.proofs.OrderLemmas.{once_in_order, path_equiv, path_exact, path_ties}
use Rattle.text_cases.proofs.find.in_order.Goals as goal

pub returns : goal.returns
returns c =
    once_in_order nat_list_cmp_total path_equiv path_ties path_exact _ _ _ c.in_ok-sort.ensures.permutation c.in_ok-sort.ensures.sorted (dedup_is _ _ _ c.dedup.ensures.filtered)
