use Rattle.std.proofs.Common.{◌∙◌, ℕ, ℤ, Some, ap, arith}
use Rattle.ring_format.proofs.CellOrder.{behind_is, none_behind}
use Rattle.ring_format.proofs.patch.first_from.Goals as goal

pub returns-then-at-cells : goal.returns-then-at-cells
returns-then-at-cells c =
    ap (λ (cell : (ℕ × ℕ) × (ℕ × ℤ)). Some cell) c.index-cells-at.is
    ∙ behind_is c.args.cells.now (c.args.archive, c.args.slot) c.cells_before-at.result c.index-cells-at.result c.cells_before-at.ensures.value c.if-at-cells.true

pub returns : goal.returns
returns c = none_behind c.args.cells.now (c.args.archive, c.args.slot) c.cells_before-at.result c.cells_before-at.ensures.value (omega (arith, c.if-at-cells.false))
