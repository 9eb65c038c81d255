use Rattle.std.proofs.Common.{◌≡◌, false, List, take}
use Rattle.std.specs.Prelude.{All}
use Rattle.carbon_history.specs.declared.entry.Entry.{Entry}
use Rattle.carbon_model.specs.Replay.{replay}
use Rattle.shared_store.specs.Asking.{AreDesksOf}
use Rattle.shared_store.specs.Held.{IsCovered}
use Rattle.shared_store.proofs.holding.adds_classes.Given as goal

abbrev pub invariant-loop-set : goal.invariant-loop-set
invariant-loop-set g l = l.adds ≡ false → (list : List Entry) → AreDesksOf list l.desks
    → All (All (IsCovered (replay g.N.Named.start list) l.held)) (take l.set-index l.found)
