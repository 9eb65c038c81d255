use Rattle.std.proofs.Common.{List, take}
use Rattle.std.specs.Prelude.{All}
use Rattle.carbon_history.specs.declared.entry.Entry.{Entry}
use Rattle.carbon_model.specs.Replay.{replay}
use Rattle.shared_store.specs.Asking.{LooksUp, Pairwise}
use Rattle.shared_store.specs.Finds.{AreFindsOf, needs_in}
use Rattle.shared_store.proofs.finding.look_all.Given as goal

abbrev pub invariant-loop-need : goal.invariant-loop-need
invariant-loop-need g l = (list : List Entry) → All (AreFindsOf list) l.finds → Pairwise (LooksUp (replay g.N.Named.start list) l.now) (needs_in (take l.need-index l.finds)) l.sets.items
