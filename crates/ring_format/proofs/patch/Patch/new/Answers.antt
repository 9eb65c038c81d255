use Rattle.ring_format.proofs.CellOrder.{no_cells}
use Rattle.ring_format.proofs.patch.Patch.new.Goals as goal

pub invariant_of-result : goal.invariant_of-result
invariant_of-result c = no_cells c.args.layout c.new-cells.result.items c.new-cells.ensures.items
