use Rattle.std.proofs.Common.{List, [], ◌∷◌, ◌++◌, sym, subst}
use Rattle.shard_core.specs.declared.looked.Looked.{Looked}
use Rattle.shared_store.specs.Asking.{Pairwise, PutsInOrder}
use Rattle.shared_store.proofs.AskFoundLemmas.{pairwise_more}
use Rattle.shared_store.proofs.finding.put_in_order.Goals as goal

pub loop-set-preserved : goal.loop-set-preserved
loop-set-preserved c =
    subst (λ (l : List (List Looked)). Pairwise PutsInOrder (c.loop-set.yielded ++ c.in-Some.set ∷ []) l) (sym c.in_ok-push.ensures.items)
    (pairwise_more PutsInOrder c.loop-set.yielded c.loop-set.sorted.items c.in-Some.set c.in_ok-in_order.field-0 c.loop-set.invariant c.in_ok-in_order.ensures)
