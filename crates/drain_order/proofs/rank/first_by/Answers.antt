use Rattle.std.proofs.Common.{◌≡◌, ◌∙◌, ◌<◌, ◌≤◌, ap, arith, length, sym}
use Rattle.std.specs.Ordering.{is_lt}
use Rattle.drain_order.specs.Rank.{by_place}
use Rattle.drain_order.proofs.RankLemmas.{none_first, walk_keeps, walk_starts, walk_takes, walk_tells}
use Rattle.drain_order.proofs.rank.first_by.Goals as goal
use Rattle.drain_order.proofs.rank.first_by.Goals.{then-is_lt, else-is_lt}

pub returns-then-count-eq0 : goal.returns-then-count-eq0
returns-then-count-eq0 c = none_first c.args.rank c.args.cache.now.metrics (omega (arith, c.metrics-count.ensures.metrics, c.if-count-eq0.true))

pub loop-place-init : goal.loop-place-init
loop-place-init c = walk_starts c.args.rank (by_place c.args.cache.now)

pub loop-place-preserved : goal.loop-place-preserved
loop-place-preserved c =
    let within : c.loop-place.place < length c.args.cache.now.places = omega (arith, c.metrics-count.ensures.places, c.loop-place-test.true) in
    elim c.if-is_lt.branch [
      | then-is_lt w ↦ rw w.best-is (walk_takes c.args.rank c.args.cache.now c.loop-place.place c.loop-place.best c.loop-place.invariant within
          (sym (ap is_lt c.compare.ensures) ∙ sym c.is_lt.ensures ∙ w.if-is_lt.true))
      | else-is_lt w ↦ rw w.best-is (walk_keeps c.args.rank c.args.cache.now c.loop-place.place c.loop-place.best c.loop-place.invariant within
          (sym (ap is_lt c.compare.ensures) ∙ sym c.is_lt.ensures ∙ w.if-is_lt.false))
    ]

pub returns : goal.returns
returns c =
    let some : 1 ≤ c.metrics-count.result = omega (arith, c.if-count-eq0.false) in
    let ended : c.loop-place.place ≡ length c.args.cache.now.places = omega (arith, c.metrics-count.ensures.places, c.loop-place-test.false, c.loop-place.auto.place-end some) in
    walk_tells c.args.rank c.args.cache.now c.loop-place.best c.metrics-count.ensures.placed c.metrics-count.ensures.once (rw ended at c.loop-place.invariant)
