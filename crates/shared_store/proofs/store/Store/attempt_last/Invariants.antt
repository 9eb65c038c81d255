use Rattle.shared_store.specs.Asking.{SeesMore}
use Rattle.shared_store.proofs.store.Store.attempt_last.Given as goal

abbrev pub invariant-loop-look : goal.invariant-loop-look
invariant-loop-look g l = SeesMore l.fn.pass l.pass
