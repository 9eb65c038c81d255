-- The cells so far are written, and read back.
use Rattle.std.proofs.Common.{◌≡◌, ◌*◌, take}
use Rattle.write_shelf.specs.Shelf.{ReadsBack, cells_bytes}
use Rattle.write_shelf.specs.declared.run.Run.TheVariants.{Cells}
use Rattle.write_shelf.proofs.run_bytes.put_cells.Given as goal
use Rattle.ring_format.specs.Cell.{cell_size}

abbrev pub invariant-loop-k : goal.invariant-loop-k
invariant-loop-k l = record {
  front : take (cell_size * l.k) l.out ≡ cells_bytes l.patch.cells l.archive l.slot l.k;
  read : ReadsBack l.patch (Cells l.archive l.slot l.k);
}
