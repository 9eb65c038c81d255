use Rattle.std.proofs.Common.{rules, ◌≡◌, List, subst}
use Rattle.std.proofs.lemmas.Fn.{always_returns_same, dedup_same}
use Rattle.shard_core.specs.declared.looked.Looked.{Looked}
use Rattle.shared_store.specs.Asking.{PutsInOrder}
use Rattle.shared_store.proofs.AskFoundLemmas.{path_below, path_ranks, path_same, puts_in_order}
use Rattle.shared_store.proofs.found_set.FoundSet.in_order.Goals as goal

pub returns : goal.returns
returns c =
    let items : c.self.inside.items.items ≡ c.args.self = search rules in
    subst (λ (l : List Looked). PutsInOrder l c.dedup_by.new.self.items) items (puts_in_order c.self.inside.items.items c.sort_by.new.self.items c.dedup_by.new.self.items c.in_ok-sort_by.ensures.permutation
    (c.in_ok-sort_by.ensures.sorted path_below path_ranks (always_returns_same _ _ _ (λ a r f' k. search rules)))
    (dedup_same _ path_same _ (λ x y b f' x' y' k. search rules) _ _ c.dedup_by.ensures.filtered))
