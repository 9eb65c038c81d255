use Rattle.std.proofs.Common.{rules}
use Rattle.write_shelf.proofs.CountLemmas.{runs_few}
use Rattle.write_shelf.proofs.run_search.runs_are_few.Goals as goal

pub returns : goal.returns
returns c = runs_few c.args.patch.now c.cells.ensures.rise c.cells.ensures.placed (search rules)
