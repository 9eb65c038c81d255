use Rattle.std.proofs.Common.{◌<◌, ◌-◌, ℕ, ℤ, pos, get_or, length, subst, arith, rules}
use Rattle.std.proofs.lemmas.List.{get_or_default}
use Rattle.point_cache.proofs.PointsLemmas.{puts_last}
use Rattle.point_cache.proofs.points.comes_last.Goals as goal

pub returns-else-is_empty : goal.returns-else-is_empty
returns-else-is_empty c = λ late.
    let some : 0 < length c.args.pairs.now = search rules in
    let last : (get_or c.args.pairs.now (length c.args.pairs.now - 1) c.index-pairs-pairs.result).0 < c.args.time = search rules in
    puts_last c.args.pairs.now c.args.time c.requires some
    (subst (λ (pair : ℕ × ℤ). pair.0 < c.args.time) (get_or_default c.args.pairs.now (length c.args.pairs.now - 1) c.index-pairs-pairs.result (0, pos 0) (omega (arith, some))) last)
