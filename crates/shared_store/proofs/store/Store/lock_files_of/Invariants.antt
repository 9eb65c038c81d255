use Rattle.std.proofs.Common.{◌≡◌, vec_len}
use Rattle.shared_store.specs.Held.{AreFiles}
use Rattle.shared_store.proofs.store.Store.lock_files_of.Given as goal

abbrev pub invariant-loop-class : goal.invariant-loop-class
invariant-loop-class g l = record { count : vec_len l.held ≡ l.class; files : AreFiles l.held.items }
