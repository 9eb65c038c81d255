use Rattle.std.proofs.Common.{◌≡◌, ◌∙◌, ◌<◌, ℕ, length, map, subst, sym, arith}
use Rattle.std.proofs.lemmas.Bool.Decides.{nat_tests}
use Rattle.metric_line.specs.Seen.{seen}
use Rattle.aggregate_front.specs.Emitting.{AggregatorValue}
use Rattle.line_front.specs.Bringing.{FeedsFront}
use Rattle.line_front.proofs.BringLemmas.{feeds_end, feeds_more, feeds_next}
use Rattle.line_front.proofs.bringing.feed_quiet.Goals as goal

pub returns-then-not-is_empty-clause-feeds : goal.returns-then-not-is_empty-clause-feeds
returns-then-not-is_empty-clause-feeds c =
    feeds_next c.args.points.now c.loop-count.count c.args.aggregator.now c.loop-count.aggregator c.loop-count.invariant.quiet c.index-points-count.result c.feed.new.self
    c.in-Ok.emitted.items c.loop-count.invariant.rules c.loop-count-test.true (sym c.index-points-count.is) c.in-Ok.ensures.fed

pub loop-count-preserved : goal.loop-count-preserved
loop-count-preserved c =
    let none : length c.in-Ok.emitted.items ≡ 0 = grind (arith, nat_tests, c.if-not-is_empty.ensures, c.in-Ok.emitted.ok.0) in record {
      few = omega (arith, c.loop-count-test.true);
      quiet = feeds_more c.args.points.now c.loop-count.count c.args.aggregator.now c.loop-count.aggregator c.loop-count.invariant.quiet c.index-points-count.result
          c.feed.new.self c.in-Ok.emitted.items c.loop-count-test.true (sym c.index-points-count.is) c.in-Ok.ensures.fed none;
      rules = c.in-Ok.ensures.fed.rules ∙ c.loop-count.invariant.rules;
    }

pub returns-in-Err-clause-feeds : goal.returns-in-Err-clause-feeds
returns-in-Err-clause-feeds c =
    let points = c.args.points.now in
    let some : 0 < c.loop-count.count = grind (arith, nat_tests, c.if-count-eq0.false) in
    let emitted = c.fed_quiet.result.emitted.items in
    subst (λ (n : ℕ). FeedsFront points n (map seen emitted) c.args.aggregator.now c.feed.new.self) (sym c.fed_quiet.ensures.0)
    (subst (λ (b : AggregatorValue). FeedsFront points c.loop-count.count (map seen emitted) c.args.aggregator.now b) (sym c.in-Err.ensures.err)
    (feeds_end points c.loop-count.count c.args.aggregator.now c.loop-count.aggregator c.loop-count.invariant.quiet emitted c.loop-count.invariant.rules c.loop-count.invariant.few some
    c.fed_quiet.ensures.1))

pub returns-clause-feeds : goal.returns-clause-feeds
returns-clause-feeds c =
    let points = c.args.points.now in
    let emitted = c.fed_quiet-2.result.emitted.items in
    subst (λ (n : ℕ). FeedsFront points n (map seen emitted) c.args.aggregator.now c.loop-count.aggregator) (sym c.fed_quiet-2.ensures.0)
    (feeds_end points c.loop-count.count c.args.aggregator.now c.loop-count.aggregator c.loop-count.invariant.quiet emitted c.loop-count.invariant.rules c.loop-count.invariant.few
    (omega (arith, c.loop-count-test.false, c.requires.some)) c.fed_quiet-2.ensures.1)
