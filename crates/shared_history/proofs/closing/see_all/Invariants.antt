use Rattle.std.proofs.Common.{◌≡◌}
use Rattle.shared_history.specs.Parts.{AllSeen}
use Rattle.shared_history.proofs.closing.see_all.Given as goal

abbrev pub invariant-loop-pass : goal.invariant-loop-pass
invariant-loop-pass l = record { order : l.order ≡ l.fn.order; seen : AllSeen l.fn.order.list l.yielded }
