use Rattle.std.proofs.Common.{◌∙◌, ℕ, ℤ, Some, ap, sym}
use Rattle.ring_format.proofs.CellOrder.{laid_at, same_default}
use Rattle.ring_format.proofs.patch.held_at.Goals as goal

pub returns-then-stands_at : goal.returns-then-stands_at
returns-then-stands_at c =
    let read = c.index-cells-at.is in
    laid_at c.args.cells.now (c.args.archive, c.args.slot) c.args.at c.index-cells-at.result c.requires c.if-at-cells.true
    (sym (ap (λ (cell : (ℕ × ℕ) × (ℕ × ℤ)). cell.0) read) ∙ c.stands_at.ensures.0 c.if-stands_at.true)
    ∙ ap (λ (cell : (ℕ × ℕ) × (ℕ × ℤ)). Some cell.1) (same_default c.args.cells.now c.args.at c.index-cells-at.result c.index-cells-at-then-stands_at.result c.if-at-cells.true)
