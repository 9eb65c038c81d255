use Rattle.std.proofs.Common.{◌≡◌, List, take}
use Rattle.std.specs.Prelude.{All}
use Rattle.carbon_history.specs.declared.entry.Entry.{Entry}
use Rattle.shared_store.specs.Asking.{AreDesksOf}
use Rattle.shared_store.specs.Finds.{AreFindsOf, needs_in}
use Rattle.shared_store.specs.Known.{needs_of}
use Rattle.shared_store.proofs.finds.find_all.Given as goal

abbrev pub invariant-loop-wanted : goal.invariant-loop-wanted
invariant-loop-wanted g l = record {
  needs : needs_in l.finds.items ≡ needs_of (take l.wanted-index l.needs);
  each : (list : List Entry) → AreDesksOf list l.desks → All (AreFindsOf list) l.finds.items;
}
