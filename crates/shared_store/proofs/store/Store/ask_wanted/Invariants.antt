use Rattle.std.proofs.Common.{◌<◌}
use Rattle.shared_store.specs.Asking.{SoFar}
use Rattle.shared_store.specs.Passes.{LooksOn}
use Rattle.shared_store.specs.Known.{needs_of}
use Rattle.shared_store.proofs.store.Store.ask_wanted.Given as goal

abbrev pub invariant-loop-again : goal.invariant-loop-again
invariant-loop-again g l = record {
  few : l.again < 3;
  made : SoFar g.N.Named.start g.N.Named.passes l.now (needs_of l.needs) l.fn.pass l.again l.pass;
  looks : LooksOn l.fn.pass l.pass;
}
