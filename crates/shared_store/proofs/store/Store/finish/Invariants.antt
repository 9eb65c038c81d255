use Rattle.std.proofs.Common.{[]}
use Rattle.shared_store.specs.Drains.{LooksIn}
use Rattle.shared_store.proofs.DrainLemmas.{Leads}
use Rattle.shared_store.proofs.store.Store.finish.Given as goal

abbrev pub invariant-loop-run : goal.invariant-loop-run
invariant-loop-run g l = record {
  leads : Leads [] l.fn.pass l.pass;
  looks : LooksIn l.class l.fn.pass l.pass;
}
