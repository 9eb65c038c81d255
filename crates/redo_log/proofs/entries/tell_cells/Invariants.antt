-- The cells so far are laid, and the others are told behind them.
use Rattle.std.proofs.Common.{◌≡◌, ◌*◌, ◌-◌, drop}
use Rattle.redo_log.specs.Body.{entry_size}
use Rattle.redo_log.specs.Told.{cells_told}
use Rattle.redo_log.proofs.entries.tell_cells.Given as goal

abbrev pub invariant-loop-k : goal.invariant-loop-k
invariant-loop-k l = record {
  told : cells_told l.fn.patch.layout l.fn.patch.cells l.count l.bytes ≡ cells_told l.patch.layout l.patch.cells (l.count - l.k) (drop (entry_size * l.k) l.bytes);
  same : l.patch ≡ record l.fn.patch { cells = l.patch.cells };
}
