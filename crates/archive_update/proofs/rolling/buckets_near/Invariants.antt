-- The last bucket that is counted is near enough, and no later than the last legal moment.
use Rattle.std.proofs.Common.{◌+◌, ◌*◌, ◌≤◌}
use Rattle.std.specs.Prelude.{max}
use Rattle.archive_update.proofs.rolling.buckets_near.Given as goal

abbrev pub invariant-loop-bucket : goal.invariant-loop-bucket
invariant-loop-bucket l = record {
  some : 1 ≤ l.count;
  near : l.count ≤ max 1 l.most;
  fits : l.first + l.count * l.step ≤ 4000000000 + l.step;
}
