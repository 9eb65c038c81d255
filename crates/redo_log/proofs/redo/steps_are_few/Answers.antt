use Rattle.std.proofs.Common.{rules}
use Rattle.redo_log.proofs.CountLemmas.{steps_few}
use Rattle.redo_log.proofs.redo.steps_are_few.Goals as goal

pub returns : goal.returns
returns c = steps_few c.args.patch.now c.cells.ensures.rise c.cells.ensures.placed (search rules)
