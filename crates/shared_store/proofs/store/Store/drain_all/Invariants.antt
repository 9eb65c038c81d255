use Rattle.shared_store.specs.Passes.{HasRoom, LooksOn}
use Rattle.shared_store.proofs.DrainLemmas.{DrainsFewFirst, DrainsFirst}
use Rattle.shared_store.proofs.store.Store.drain_all.Given as goal

abbrev pub invariant-loop-class : goal.invariant-loop-class
invariant-loop-class g l = record {
  first : DrainsFirst g.N.Named.start g.N.Named.passes l.now l.class l.fn.pass l.pass;
  few : DrainsFewFirst g.N.Named.start l.class l.fn.pass l.pass;
  looks : LooksOn l.fn.pass l.pass;
  room : HasRoom l.pass;
}
