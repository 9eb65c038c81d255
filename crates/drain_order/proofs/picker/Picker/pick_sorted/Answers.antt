use Rattle.std.proofs.Common.{◌≡◌, ◌∙◌, [], Bool, List, ap, if◌then◌else◌, refl, sym, true≢false, ℕ}
use Rattle.drain_order.specs.Pick.{queue_now}
use Rattle.drain_order.specs.Picking.{Picking}
use Rattle.drain_order.proofs.PickingLemmas.{kept_queue, picks_front, standing}
use Rattle.drain_order.proofs.StayLemmas.{sorted_queues}
use Rattle.drain_order.proofs.picker.Picker.pick_sorted.Goals as goal

pub returns-clause-picks : goal.returns-clause-picks
returns-clause-picks c =
    let seen : c.self.inside.queue ≡ c.args.self.now.queue = ap (λ (b : Bool). if b then [] else c.self.inside.queue) (sym c.if-self.false) ∙ ap (λ (p : Picking). p.queue) c.self.view_is in
    let some : c.args.self.now.queue ≡ [] → ⊥ = λ e. true≢false (sym (c.is_empty.ensures.1 (seen ∙ e)) ∙ c.if-is_empty.false) in
    let strategy = ap (λ (p : Picking). p.strategy) c.self-2.view_is in
    let queue = ap (λ (p : Picking). p.queue) c.self-2.view_is in
    let kept : c.args.self.now.queue ≡ c.self-2.inside.queue = kept_queue c.self-2.inside.is_made c.self-2.inside.queue c.args.self.now.queue queue some in
    let unread = sorted_queues c.self-2.inside.strategy c.self-2.inside.queue c.self-2.inside.arrived (strategy ∙ c.requires.sorted) c.self-2.invariant.0 in
    picks_front c.args.self.now _ c.args.cache.now c.self-2.inside.queue c.first.result.now c.place_of.result c.requires.sorted unread c.requires.follows
    (standing c.args.cache.now.metrics c.self-2.inside.queue c.first.result.now c.first.ensures ∙ ap (λ (q : List (List ℕ)). queue_now q c.args.cache.now.metrics) (sym kept))
    (rw kept at c.requires.follows.pending)
    c.self-2.invariant.1 c.first.ensures (record { found = c.place_of.ensures.place; pending = c.place_of.ensures.pending }) strategy queue refl
