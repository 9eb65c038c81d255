use Rattle.std.proofs.Common.{List, ℕ, subst, sym}
use Rattle.std.specs.List.{IsDistinct}
use Rattle.std.specs.Str.{bytes_eq}
use Rattle.drain_order.proofs.StayLemmas.{made_once}
use Rattle.drain_order.proofs.queue.Queue.make.Goals as goal

pub returns-clause-once : goal.returns-clause-once
returns-clause-once c =
    subst (λ (q : List (List ℕ)). IsDistinct bytes_eq q) (sym c.in_ok-waiting.ensures.paths) (made_once c.args.cache.now.metrics c.in_ok-waiting.ensures.once)
