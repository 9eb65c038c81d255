use Rattle.std.proofs.Common.{◌∙◌, ℕ, ℤ, pos, ap, sym, arith}
use Rattle.std.proofs.lemmas.Bool.{true≢false}
use Rattle.ring_format.proofs.patch.find.Goals as goal
use Rattle.ring_format.proofs.patch.find.Goals.{else-at-cells-via-then-at-cells+else-stands_at, else-at-cells-via-else-at-cells}

pub returns-then-stands_at-clause-there : goal.returns-then-stands_at-clause-there
returns-then-stands_at-clause-there c =
    c.cells_before-at.ensures.puts.here c.index-cells-at.result c.if-at-cells.true
    (sym (ap (λ (cell : (ℕ × ℕ) × (ℕ × ℤ)). cell.0) c.index-cells-at.is) ∙ c.stands_at.ensures.0 c.if-stands_at.true)

pub returns-clause-absent : goal.returns-clause-absent
returns-clause-absent c = elim c.else-at-cells.branch [
  | else-at-cells-via-then-at-cells+else-stands_at w ↦ c.cells_before-at.ensures.puts.other w.index-cells-at.result
      (λ lt same. true≢false (sym (w.stands_at.ensures.1 (ap (λ (cell : (ℕ × ℕ) × (ℕ × ℤ)). cell.0) w.index-cells-at.is ∙ same)) ∙ w.if-stands_at.false))
  | else-at-cells-via-else-at-cells w ↦ c.cells_before-at.ensures.puts.other ((0, 0), (0, pos 0)) (λ lt. absurd (omega (arith, lt, w.if-at-cells.false)))
]
