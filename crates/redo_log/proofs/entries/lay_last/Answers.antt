use Rattle.std.proofs.Common.{◌∙◌, ap}
use Rattle.redo_log.proofs.CellLemmas.{laid_last}
use Rattle.redo_log.proofs.entries.lay_last.Goals as goal

pub returns-in-Ok-clause-ok : goal.returns-in-Ok-clause-ok
returns-in-Ok-clause-ok c =
    c.in-Ok.ensures.ok
    ∙ ap (λ cells. record c.args.patch.now { cells = cells }) (laid_last c.args.patch.now.cells (c.args.cell.archive, c.args.cell.slot) (c.args.cell.bucket, c.args.cell.value) c.cells_rise.ensures c.requires.last)
