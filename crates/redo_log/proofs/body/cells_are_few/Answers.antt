use Rattle.std.proofs.Common.{rules, arith, length, ap, ◌∙◌}
use Rattle.metric_path.proofs.PathLemmas.{length_of_legal}
use Rattle.redo_log.proofs.CellLemmas.{cells_few}
use Rattle.redo_log.proofs.body.cells_are_few.Goals as goal

pub returns-clause-few : goal.returns-clause-few
returns-clause-few c = cells_few c.args.patch.now c.cells.ensures.rise c.cells.ensures.placed (search rules)

pub returns-clause-short : goal.returns-clause-short
returns-clause-short c = omega (arith, (length_of_legal c.text.result.now c.text.ensures.legal).1, ap length (c.text.ensures.value ∙ c.path.ensures))
