use Rattle.std.proofs.Common.{◌∙◌, List, Some, ap, drop, ℕ}
use Rattle.drain_order.specs.Pick.{pick}
use Rattle.drain_order.specs.Picking.{Picking}
use Rattle.drain_order.proofs.PickingLemmas.{picks_none, picks_ranked, ranked_path, seen_none}
use Rattle.drain_order.proofs.StayLemmas.{unsorted_queues}
use Rattle.drain_order.proofs.picker.Picker.pick_first.Goals as goal

pub returns-in-Some : goal.returns-in-Some
returns-in-Some c =
    let strategy = ap (λ (p : Picking). p.strategy) c.self.view_is in
    let queue = ap (λ (p : Picking). p.queue) c.self.view_is in
    let queues = unsorted_queues c.self.inside.strategy c.args.rank c.self.inside.queue c.self.inside.arrived (strategy ∙ c.requires.strategy) c.self.invariant.0 in
    picks_ranked c.args.self.now _ c.args.cache.now c.args.rank c.in-Some.place c.requires.strategy
    (seen_none c.self.inside.is_made c.self.inside.queue c.args.self.now.queue queues.0 queue) queues.1 (rw c.in-Some.is at c.first_by.ensures)
    strategy queue (ap (λ (q : List (List ℕ)). Some (drop 1 q)) queues.0)

pub returns-in-None : goal.returns-in-None
returns-in-None c =
    picks_none c.args.self.now c.args.cache.now c.requires.follows
    (ap (λ s. pick s c.args.self.now.queue c.args.cache.now.metrics) c.requires.strategy ∙ ranked_path c.args.rank c.args.self.now.queue c.args.cache.now.metrics ∙ c.in-None.ensures)
