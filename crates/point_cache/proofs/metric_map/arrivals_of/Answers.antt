use Rattle.std.proofs.Common.{◌≡◌, ◌<◌, arith, length}
use Rattle.point_cache.proofs.ArrivalLemmas.{none_arrived, one_arrived}
use Rattle.point_cache.proofs.metric_map.arrivals_of.Goals as goal

pub loop-place-init : goal.loop-place-init
loop-place-init c = rw c.in_ok-all.ensures.items (none_arrived c.args.entries.now.entries)

pub loop-place-preserved : goal.loop-place-preserved
loop-place-preserved c =
    let within : c.loop-place.place < length c.args.entries.now.entries = omega (arith, c.len-count.ensures.len, c.loop-place-test.true) in
    rw c.in_ok-push.ensures.items (one_arrived c.args.entries.now.entries c.loop-place.all.items (record { number = c.number_at-number.result; place = c.loop-place.place })
    within c.number_at-number.ensures c.loop-place.invariant)

pub returns : goal.returns
returns c =
    let ended : c.loop-place.place ≡ length c.args.entries.now.entries = omega (arith, c.len-count.ensures.len, c.loop-place-test.false, c.loop-place.auto.place-end) in
    rw ended at c.loop-place.invariant
