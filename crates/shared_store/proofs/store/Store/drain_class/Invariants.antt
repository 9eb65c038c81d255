use Rattle.shared_store.specs.Drains.{LooksIn}
use Rattle.shared_store.proofs.DrainLemmas.{DrainsMost, DrainsTurns}
use Rattle.shared_store.proofs.store.Store.drain_class.Given as goal

abbrev pub invariant-loop-turn : goal.invariant-loop-turn
invariant-loop-turn g l = record {
  turns : DrainsTurns g.N.Named.start g.N.Named.passes l.class l.now l.most l._turn l.fn.pass l.pass;
  most : DrainsMost g.N.Named.start l.class l.most l._turn l.fn.pass l.pass;
  looks : LooksIn l.class l.fn.pass l.pass;
}
