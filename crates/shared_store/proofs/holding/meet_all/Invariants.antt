use Rattle.std.proofs.Common.{◌≡◌, ℕ, ◌<◌, List, Option, vec_len}
use Rattle.std.specs.Prelude.{slice_index_or}
use Rattle.std.specs.declared.sync.MutexGuard.{MutexGuard}
use Rattle.carbon_history.specs.declared.entry.Entry.{Entry}
use Rattle.shared_store.specs.Asking.{AreDesks, AreDesksOf}
use Rattle.shared_store.specs.Held.{AreFiles, IsPlaceOf}
use Rattle.shared_store.specs.Locks.{FilesValue}
use Rattle.shared_store.proofs.holding.meet_all.Given as goal

abbrev pub invariant-loop-i : goal.invariant-loop-i
invariant-loop-i g l = record {
  count : vec_len l.desks ≡ vec_len l.fn.desks;
  many : vec_len l.held ≡ vec_len l.fn.held;
  desks : AreDesks l.desks.items;
  files : AreFiles l.held.items;
  still : (list : List Entry) → AreDesksOf list l.fn.desks.items → AreDesksOf list l.desks.items;
  met : (list : List Entry) → AreDesksOf list l.fn.desks.items → (k : ℕ) (d : Option (MutexGuard FilesValue)) → k < l.i → IsPlaceOf k list (slice_index_or l.held.items k d);
}
