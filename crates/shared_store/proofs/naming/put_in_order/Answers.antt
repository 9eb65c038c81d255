use Rattle.std.proofs.lemmas.List.Filters.{dedup_is}
use Rattle.shared_store.proofs.NameLemmas.{puts_names}
use Rattle.shared_store.proofs.naming.put_in_order.Goals as goal

pub returns : goal.returns
returns c =
    puts_names c.args.names.items c.sort.new.self.items c.dedup.new.self.items c.in_ok-sort.ensures.permutation c.in_ok-sort.ensures.sorted (dedup_is _ _ _ c.dedup.ensures.filtered)
