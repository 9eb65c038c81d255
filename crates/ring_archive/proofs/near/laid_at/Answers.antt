use Rattle.std.proofs.Common.{◌∙◌, ℕ, ℤ, Some, ap, sym}
use Rattle.ring_format.proofs.CellOrder.{laid_at, same_default}
use Rattle.ring_archive.proofs.near.laid_at.Goals as goal

pub returns-then-stands_at : goal.returns-then-stands_at
returns-then-stands_at c =
    let same = c.cells-cells.ensures.value in
    sym (
    rw same (ap (λ (cell : (ℕ × ℕ) × (ℕ × ℤ)). Some cell.1) (same_default c.args.patch.now.cells c.args.at c.index-cells-at-then-stands_at.result c.index-cells-at.result (rw same at c.if-at-cells.true)))
    ∙ sym (laid_at c.args.patch.now.cells (c.args.archive, c.args.slot) c.args.at _ c.cells-cells.ensures.rise (rw same at c.if-at-cells.true) (rw same at (c.stands_at.ensures.0 c.if-stands_at.true)))
    )
