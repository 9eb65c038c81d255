use Rattle.std.proofs.Common.{◌∙◌, List, Some, ap, drop, subst, sym, ℕ}
use Rattle.drain_order.specs.Picking.{Picking}
use Rattle.drain_order.proofs.PickingLemmas.{picks_arrived, seen_none}
use Rattle.drain_order.proofs.StayLemmas.{IsFront, all_front, naive_queues}
use Rattle.drain_order.proofs.picker.Picker.look_up_arrived.Goals as goal

pub returns-clause-picks : goal.returns-clause-picks
returns-clause-picks c =
    let strategy = ap (λ (p : Picking). p.strategy) c.self.view_is in
    let queue = ap (λ (p : Picking). p.queue) c.self.view_is in
    let none = naive_queues c.self.inside.strategy c.self.inside.queue c.self.inside.arrived (strategy ∙ c.requires.naive) c.self.invariant.0 in
    picks_arrived c.args.self.now _ c.args.cache.now c.first.result.now c.place_of-place.result c.requires.naive
    (seen_none c.self.inside.is_made c.self.inside.queue c.args.self.now.queue none queue)
    (subst (λ (a : List (List ℕ)). IsFront a c.args.cache.now.metrics) (sym c.in_ok-arrived.ensures) (all_front c.args.cache.now.metrics)) c.first.ensures
    (record { found = c.place_of-place.ensures.place; pending = c.place_of-place.ensures.pending }) strategy queue (ap (λ (q : List (List ℕ)). Some (drop 1 q)) none)
