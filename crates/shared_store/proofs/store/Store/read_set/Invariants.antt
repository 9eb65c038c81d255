use Rattle.std.proofs.Common.{take}
use Rattle.carbon_model.specs.Replay.{replay}
use Rattle.shared_store.specs.Asking.{IsSeriesAt, OnlyLooks, Pairwise}
use Rattle.shared_store.specs.Held.{KeepsFilesHeld}
use Rattle.shared_store.proofs.store.Store.read_set.Given as goal

abbrev pub invariant-loop-looked : goal.invariant-loop-looked
invariant-loop-looked g l = record {
  only : OnlyLooks l.fn.pass l.pass;
  held : KeepsFilesHeld l.fn.pass.seen l.fn.held.items l.held.items;
  pairs : Pairwise (IsSeriesAt g.N.Named.told (replay g.N.Named.start l.fn.pass.seen)) (take l.looked-index l.found) l.set;
}
