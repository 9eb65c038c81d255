use Rattle.std.proofs.Common.{◌≡◌, vec_len}
use Rattle.shared_store.specs.Pieces.{HoldsClasses}
use Rattle.shared_store.proofs.store.Store.lock_some.Given as goal

abbrev pub invariant-loop-class : goal.invariant-loop-class
invariant-loop-class g l = record { count : vec_len l.desks ≡ l.class; held : HoldsClasses l.classes l.desks.items }
