use Rattle.std.proofs.Common.{◌≡◌, ◌∙◌, List, Some, ap, length, slice_get, sym, ℕ}
use Rattle.drain_order.proofs.MetricLemmas.{path_at_place, points_at_place}
use Rattle.drain_order.proofs.queue.waiting_at.Goals as goal

pub returns : goal.returns
returns c =
    let here : slice_get c.args.cache.now.places c.args.place ≡ Some c.in_ok-path.path = c.path.ensures ∙ ap (λ (p : List ℕ). Some p) (sym c.in_ok-path.ensures) in
    let path = path_at_place c.args.cache.now c.args.place c.in_ok-path.path here in
    let count = ap length (points_at_place c.args.cache.now c.args.place c.points.result.now c.requires c.points.ensures.points) in
    record { path = here; metric = λ j. record { count = count j; path = path j } }
