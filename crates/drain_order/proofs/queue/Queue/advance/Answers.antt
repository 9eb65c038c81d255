use Rattle.std.proofs.Common.{◌∙◌, ap, drop}
use Rattle.drain_order.proofs.QueueLemmas.{drop_front}
use Rattle.drain_order.proofs.queue.Queue.advance.Goals as goal

pub returns-then-self-len : goal.returns-then-self-len
returns-then-self-len c = drop_front c.self.inside.waiting.items c.self.inside.next ∙ ap (drop 1) c.self.view_is
