use Rattle.std.proofs.Common.{◌∙◌, arith, rules}
use Rattle.drain_order.proofs.QueueLemmas.{one_left}
use Rattle.drain_order.proofs.queue.Queue.is_empty.Goals as goal

pub returns-then-self-len : goal.returns-then-self-len
returns-then-self-len c =
    (λ h. search rules, λ e. absurd (one_left c.self.inside.waiting.items c.self.inside.next (omega (arith, c.len.ensures, c.if-self-len.true)) (c.self.view_is ∙ e)))
