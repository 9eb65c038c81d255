use Rattle.std.proofs.Common.{sym, rules}
use Rattle.ring_format.proofs.CellLemmas.{cell_is_read}
use Rattle.write_shelf.proofs.BytesLemmas.{read_more, written_more}
use Rattle.write_shelf.proofs.run_bytes.put_cells.Goals as goal

pub loop-k-preserved : goal.loop-k-preserved
loop-k-preserved c =
    let written = c.write_cell.ensures.bytes in
    record {
      front = written_more c.args.patch.now.cells c.args.archive c.args.slot c.loop-k.k c.loop-k.out c.put_cell.new.out c.write_cell.new.out c.in-Some.held.0 c.in-Some.held.1
          c.loop-k.invariant.front c.put_cell.ensures written (sym c.in-Some.ensures);
      read = read_more c.args.patch.now c.args.archive c.args.slot c.loop-k.k c.in-Some.held.0 c.in-Some.held.1 c.loop-k.invariant.read (sym c.in-Some.ensures) (cell_is_read c.in-Some.held.0 c.in-Some.held.1 (search rules) c.write_cell.ensures.fits);
    }
