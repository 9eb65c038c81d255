use Rattle.write_shelf.proofs.BytesLemmas.{cell_stands, length-cells_bytes}
use Rattle.write_shelf.proofs.laws.each_cell_has_its_bytes.Goals as goal

pub returns-clause-long : goal.returns-clause-long
returns-clause-long c = λ patch archive slot count laid. length-cells_bytes patch.cells archive slot count laid.laid

pub returns-clause-cell : goal.returns-clause-cell
returns-clause-cell c = λ patch archive slot count k laid below. cell_stands patch.cells archive slot count k laid.laid below
