use Rattle.std.proofs.Common.{take}
use Rattle.carbon_model.specs.Replay.{replay}
use Rattle.shared_store.specs.Asking.{IsSeriesAt, OnlyLooks, Pairwise}
use Rattle.shared_store.specs.Held.{KeepsFilesHeld}
use Rattle.shared_store.proofs.store.Store.read_all.Given as goal

abbrev pub invariant-loop-found : goal.invariant-loop-found
invariant-loop-found g l = record {
  only : OnlyLooks l.fn.pass l.pass;
  held : KeepsFilesHeld l.fn.pass.seen l.fn.held.items l.held.items;
  pairs : Pairwise (Pairwise (IsSeriesAt g.N.Named.told (replay g.N.Named.start l.fn.pass.seen))) (take l.found-index l.sets) l.rows;
}
