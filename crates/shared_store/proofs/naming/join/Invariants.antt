use Rattle.std.proofs.Common.{◌≡◌}
use Rattle.shared_store.specs.Known.{lists_of}
use Rattle.shared_store.specs.Naming.{joined}
use Rattle.shared_store.proofs.naming.join.Given as goal

abbrev pub invariant-loop-list : goal.invariant-loop-list
invariant-loop-list l = l.names.items ≡ joined (lists_of l.yielded)
