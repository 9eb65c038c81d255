use Rattle.std.proofs.Common.{◌≡◌, length}
use Rattle.shared_store.specs.Asking.{OnlyLooks}
use Rattle.shared_store.specs.Known.{AreInOrder, KnowsBy, lists_of}
use Rattle.shared_store.proofs.store.Store.learn_names.Given as goal

abbrev pub invariant-loop-class : goal.invariant-loop-class
invariant-loop-class g l = record {
  count : length l.names.items ≡ l.class;
  known : KnowsBy g.N.Named.start l.pass.looks (lists_of l.names.items);
  order : AreInOrder l.names.items;
  only : OnlyLooks l.fn.pass l.pass;
}
