use Rattle.std.proofs.Common.{rules}
use Rattle.write_shelf.proofs.RunLemmas.{places_low}
use Rattle.write_shelf.proofs.run_search.cells_in_order.Goals as goal

pub returns-clause-low : goal.returns-clause-low
returns-clause-low c = places_low c.args.patch.now.layout _ (search rules) c.cells.ensures.placed
