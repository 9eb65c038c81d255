use Rattle.shared_store.specs.Asking.{Pairwise, PutsInOrder}
use Rattle.shared_store.proofs.finding.put_in_order.Given as goal

abbrev pub invariant-loop-set : goal.invariant-loop-set
invariant-loop-set l = Pairwise PutsInOrder l.yielded l.sorted.items
