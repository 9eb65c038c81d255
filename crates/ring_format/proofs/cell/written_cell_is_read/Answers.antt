use Rattle.ring_format.proofs.CellLemmas.{cell_is_read}
use Rattle.ring_format.proofs.cell.written_cell_is_read.Goals as goal

pub returns : goal.returns
returns c = cell_is_read
