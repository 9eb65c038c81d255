use Rattle.std.proofs.Common.{◌∙◌, ◌∷◌, ◌++◌, ◌<◌, [], ap, arith, length, map}
use Rattle.std.proofs.lemmas.List.{take_all}
use Rattle.drain_order.specs.Queue.{waiting_of}
use Rattle.drain_order.specs.Rank.{by_place}
use Rattle.drain_order.proofs.MetricLemmas.{length_placed}
use Rattle.drain_order.proofs.QueueLemmas.{placed_more}
use Rattle.drain_order.proofs.queue.placed.Goals as goal

pub loop-place-preserved : goal.loop-place-preserved
loop-place-preserved c =
    let within : c.loop-place.place < length (by_place c.args.cache.now) = omega (arith, length_placed c.args.cache.now, c.metrics-count.ensures.places, c.loop-place-test.true) in
    c.in_ok-push.ensures.items ∙ ap (λ xs. xs ++ c.in_ok-waiting.waiting ∷ []) c.loop-place.invariant
    ∙ placed_more (by_place c.args.cache.now) c.loop-place.place c.in_ok-waiting.waiting within c.in_ok-waiting.ensures.metric

pub returns-clause-all : goal.returns-clause-all
returns-clause-all c =
    c.loop-place.invariant
    ∙ ap (map waiting_of) (take_all c.loop-place.place (by_place c.args.cache.now) (omega (arith, length_placed c.args.cache.now, c.metrics-count.ensures.places, c.loop-place-test.false)))
