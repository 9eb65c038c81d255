use Rattle.std.proofs.Common.{◌≡◌, vec_len}
use Rattle.shared_store.specs.Asking.{AreDesks}
use Rattle.shared_store.proofs.store.Store.lock_all.Given as goal

abbrev pub invariant-loop-class : goal.invariant-loop-class
invariant-loop-class g l = record { count : vec_len l.desks ≡ l.class; desks : AreDesks l.desks.items }
