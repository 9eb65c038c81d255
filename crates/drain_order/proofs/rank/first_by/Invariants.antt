use Rattle.std.specs.List.{IsFirstBest}
use Rattle.std.specs.Ordering.{is_lt}
use Rattle.drain_order.specs.Rank.{by_place, order_of}
use Rattle.drain_order.proofs.rank.first_by.Given as goal

-- the best of those before the place
abbrev pub invariant-loop-place : goal.invariant-loop-place
invariant-loop-place l = IsFirstBest (λ a b. is_lt (order_of l.rank a b)) (by_place l.cache) l.place l.best
