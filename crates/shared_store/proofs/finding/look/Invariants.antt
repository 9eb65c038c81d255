use Rattle.std.proofs.Common.{List}
use Rattle.carbon_history.specs.declared.entry.Entry.{Entry}
use Rattle.carbon_model.specs.Replay.{replay}
use Rattle.shared_store.specs.Asking.{LooksBelow}
use Rattle.shared_store.specs.Finds.{AreFindsOf}
use Rattle.shared_store.proofs.finding.look.Given as goal

abbrev pub invariant-loop-class : goal.invariant-loop-class
invariant-loop-class g l = (list : List Entry) → AreFindsOf list l.finds → LooksBelow l.class-index (replay g.N.Named.start list) l.now l.finds.need l.found
