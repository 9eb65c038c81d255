use Rattle.std.proofs.Common.{◌∙◌, arith}
use Rattle.std.proofs.lemmas.List.{take_all}
use Rattle.point_cache.specs.Pending.{paths_of}
use Rattle.drain_order.proofs.QueueLemmas.{arrived_more, as_many, next_within}
use Rattle.drain_order.proofs.queue.arrived.Goals as goal

pub loop-index-preserved : goal.loop-index-preserved
loop-index-preserved c =
    rw c.in_ok-push.ensures.items (arrived_more c.args.cache.now.places c.in_ok-order.order (paths_of c.args.cache.now.metrics) c.loop-index.all.items c.in_ok-waiting.waiting
    c.loop-index.index c.place.result c.in_ok-order.ensures c.place.ensures c.in_ok-waiting.ensures.path c.loop-index.invariant)

pub waiting_at-requires : goal.waiting_at-requires
waiting_at-requires c =
    next_within c.args.cache.now.places c.in_ok-order.order (paths_of c.args.cache.now.metrics) c.loop-index.index c.place.result c.in_ok-order.ensures c.place.ensures

pub returns : goal.returns
returns c =
    let long = as_many c.args.cache.now.places c.in_ok-order.order (paths_of c.args.cache.now.metrics) c.in_ok-order.ensures in
    c.loop-index.invariant ∙ take_all c.loop-index.index (paths_of c.args.cache.now.metrics) (omega (arith, long, c.len-count.ensures, c.loop-index-test.false))
