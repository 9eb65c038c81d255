use Rattle.ring_archive.proofs.HeldLemmas.{held_is}
use Rattle.ring_archive.proofs.round.held_cell.Goals as goal

pub returns : goal.returns
returns c = held_is c.args.version c.cell_bytes_in-size.result c.args.place c.args.bytes.now _ c.cell_bytes_in-size.ensures c.read_cell.ensures
