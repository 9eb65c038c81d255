use Rattle.std.proofs.Common.{◌≡◌, ◌≤◌, ◌-◌, ℕ, ℤ, get_or, length, ap, arith}
use Rattle.std.proofs.lemmas.Bool.Decides.{nat_tests}
use Rattle.archive_update.proofs.RisingLemmas.{all_earlier, all_later}
use Rattle.archive_update.proofs.own.HomeSpan.meets.Goals as goal
use Rattle.archive_update.proofs.own.HomeSpan.meets.Goals.{then-count-gt0, else-count-gt0}

pub returns-then-from-self : goal.returns-then-from-self
returns-then-from-self c = λ late.
    let at : c.index-points-count.result.0 ≡ (get_or c.args.points.now (length c.args.points.now - 1) c.index-points-count.result).0 = ap (λ (p : ℕ × ℤ). p.0) c.index-points-count.is in
    all_earlier c.args.self c.args.points.now c.index-points-count.result c.requires (grind (arith, nat_tests, late, at, c.from-then-from-self.ensures))

pub returns-else-from-self : goal.returns-else-from-self
returns-else-from-self c = λ none. elim c.if-count-gt0.branch [
  | then-count-gt0 w ↦
      let at : w.index-points-0.result.0 ≡ (get_or c.args.points.now 0 w.index-points-0.result).0 = ap (λ (p : ℕ × ℤ). p.0) w.index-points-0.is in
      all_later c.args.self c.args.points.now w.index-points-0.result c.requires (grind (arith, nat_tests, w.value-is, c.if-from-self.false, at, w.from.ensures))
  | else-count-gt0 w ↦ λ k d lt. absurd (let empty : length c.args.points.now ≤ 0 = w.if-count-gt0.false in omega arith)
]
