use Rattle.std.proofs.Common.{[], List, Option, ap, arith, sym, unwrap_or, ℕ, ℤ}
use Rattle.point_cache.proofs.PendingLemmas.{count_taken, each_taken, some_points}
use Rattle.point_cache.proofs.cache.PointCache.take.Goals as goal

pub overflow_sub-self : goal.overflow_sub-self
overflow_sub-self c =
    omega (arith, count_taken c.self.inside.metrics.metrics c.take-path.result.0 c.take-path.result.1 c.take-path.ensures.points, c.self.invariant.0, c.len.ensures)

pub invariant_of-self : goal.invariant_of-self
invariant_of-self c =
    let count = count_taken c.self.inside.metrics.metrics c.take-path.result.0 c.take-path.result.1 c.take-path.ensures.points in
    rw c.take-path.ensures.metrics (
      omega (arith, count, c.self.invariant.0, c.len.ensures),
      (omega (arith, c.self.invariant.1.0), each_taken c.self.inside.metrics.metrics c.take-path.result.0 c.self.invariant.1.1),
    )

pub returns-clause-points : goal.returns-clause-points
returns-clause-points c = rw (sym c.self.view_is) (sym (ap (λ (o : Option (List (ℕ × ℤ))). unwrap_or o []) c.take-path.ensures.points))

pub returns-clause-some : goal.returns-clause-some
returns-clause-some c = some_points c.self.inside.metrics.metrics c.take-path.result.0 c.take-path.result.1 c.take-path.ensures.points c.self.invariant.1.1
