use Rattle.std.proofs.Common.{◌≡◌}
use Rattle.shared_store.proofs.CloseLemmas.{LooksBefore}
use Rattle.shared_store.proofs.close.look_all.Given as goal

abbrev pub invariant-loop-pass : goal.invariant-loop-pass
invariant-loop-pass l = record {
  tail : l.tail ≡ l.fn.tail;
  looks : LooksBefore l.pass-index l.fn.tail l.fn.passes l.passes;
}
