use Rattle.std.proofs.Common.{◌≡◌, ◌≤◌, ◌-◌, length, map, take}
use Rattle.metric_line.specs.Seen.{seen}
use Rattle.line_front.specs.Bringing.{FeedsQuiet}
use Rattle.line_front.proofs.bringing.feed_quiet.Given as goal

abbrev pub invariant-loop-count : goal.invariant-loop-count
invariant-loop-count l = record {
  few : l.count ≤ length l.points;
  quiet : FeedsQuiet (map seen (take l.count l.points)) l.fn.aggregator l.aggregator;
  rules : l.aggregator.rules ≡ l.fn.aggregator.rules;
}

abbrev pub decreases-loop-count : goal.decreases-loop-count
decreases-loop-count l = length l.points - l.count
