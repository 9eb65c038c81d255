use Rattle.shared_store.specs.Known.{KnowsOf, LooksAlone}
use Rattle.shared_store.proofs.store.Store.names_in.Given as goal

abbrev pub invariant-loop-piece : goal.invariant-loop-piece
invariant-loop-piece g l = record {
  names : KnowsOf g.N.Named.start l.pass.looks l.class l.names.items;
  alone : LooksAlone l.class l.fn.pass l.pass;
}
