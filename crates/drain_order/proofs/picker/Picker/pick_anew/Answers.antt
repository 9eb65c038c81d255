use Rattle.std.proofs.Common.{◌∙◌, List, ap, refl, sym, ℕ}
use Rattle.drain_order.specs.Pick.{queue_now}
use Rattle.drain_order.specs.Picking.{Picking}
use Rattle.drain_order.proofs.PickingLemmas.{made_pending, picks_front}
use Rattle.drain_order.proofs.StayLemmas.{sorted_queues}
use Rattle.drain_order.proofs.picker.Picker.pick_anew.Goals as goal

pub returns-clause-picks : goal.returns-clause-picks
returns-clause-picks c =
    let strategy = ap (λ (p : Picking). p.strategy) c.self.view_is in
    let empty = sym c.requires.empty in
    let unread = sorted_queues c.self.inside.strategy c.self.inside.queue c.self.inside.arrived (strategy ∙ c.requires.sorted) c.self.invariant.0 in
    picks_front c.args.self.now _ c.args.cache.now c.in_ok-queue.queue c.first.result.now c.place_of-place.result c.requires.sorted unread c.requires.follows
    (c.in_ok-queue.ensures.paths ∙ ap (λ (q : List (List ℕ)). queue_now q c.args.cache.now.metrics) empty)
    (rw c.in_ok-queue.ensures.paths (made_pending c.args.cache.now.metrics))
    c.in_ok-queue.ensures.once c.first.ensures (record { found = c.place_of-place.ensures.place; pending = c.place_of-place.ensures.pending }) strategy empty refl
