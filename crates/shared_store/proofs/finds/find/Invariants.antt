use Rattle.std.proofs.Common.{◌≡◌, ℕ, ◌<◌, List, get_or, length}
use Rattle.std.specs.Prelude.{All}
use Rattle.carbon_history.specs.declared.entry.Entry.{Entry}
use Rattle.shared_store.specs.Asking.{AreDesksOf}
use Rattle.shared_store.specs.Finds.{ClassFindsValue, IsFindOf}
use Rattle.shared_store.proofs.finds.find.Given as goal

abbrev pub invariant-loop-desk : goal.invariant-loop-desk
invariant-loop-desk g l = record {
  count : length l.classes.items ≡ l.desk-index;
  needs : All (λ (x : ClassFindsValue). x.need ≡ l.wanted.need) l.classes.items;
  each : (list : List Entry) → AreDesksOf list l.desks → (k : ℕ) (d : ClassFindsValue) → k < length l.classes.items → IsFindOf k list l.wanted.need (get_or l.classes.items k d);
}
