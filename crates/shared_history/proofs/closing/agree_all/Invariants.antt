use Rattle.std.proofs.Common.{◌≡◌}
use Rattle.shared_history.specs.Parts.{AllAgree}
use Rattle.shared_history.proofs.closing.agree_all.Given as goal

abbrev pub invariant-loop-tail : goal.invariant-loop-tail
invariant-loop-tail l = record { order : l.order ≡ l.fn.order; agree : AllAgree l.fn.order.list l.yielded }
