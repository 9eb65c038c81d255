use Rattle.std.proofs.Common.{◌≡◌, ℕ, ◌<◌, List, vec_len}
use Rattle.std.specs.Prelude.{slice_index_or}
use Rattle.std.specs.Sync.Mutex.{mutex_guard_value}
use Rattle.std.specs.declared.sync.MutexGuard.{MutexGuard}
use Rattle.carbon_history.specs.declared.entry.Entry.{Entry}
use Rattle.carbon_history.specs.Entries.{about_class}
use Rattle.shared_store.specs.Asking.{AreDesks, AreDesksOf}
use Rattle.shared_store.specs.Desks.{DeskValue}
use Rattle.shared_store.proofs.store.Store.agree_all.Given as goal

abbrev pub invariant-loop-i : goal.invariant-loop-i
invariant-loop-i g l = record {
  count : vec_len l.desks ≡ vec_len l.fn.desks;
  desks : AreDesks l.desks.items;
  agree : (k : ℕ) (d : MutexGuard DeskValue) → k < l.i → (mutex_guard_value (slice_index_or l.desks.items k d)).list ≡ about_class k l.fn.order;
  order : l.order ≡ l.fn.order;
  still : (list : List Entry) → AreDesksOf list l.fn.desks.items → AreDesksOf list l.desks.items;
}
