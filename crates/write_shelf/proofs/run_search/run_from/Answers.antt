use Rattle.std.proofs.Common.{sym}
use Rattle.write_shelf.proofs.OrderLemmas.{found_laid}
use Rattle.write_shelf.proofs.RunLemmas.{none_left, run_found}
use Rattle.write_shelf.proofs.run_search.run_from.Goals as goal

pub returns-in_default : goal.returns-in_default
returns-in_default c = none_left c.args.patch.now (c.args.archive, c.args.slot) c.last_run.result (sym c.in_default.ensures.value) c.last_run.ensures

pub run_length-count-requires-clause-first : goal.run_length-count-requires-clause-first
run_length-count-requires-clause-first c =
    found_laid c.args.patch.now.cells (c.args.archive, c.args.slot) ((c.in-Some.archive, c.in-Some.slot), c.in-Some.field-0-1) (sym c.in-Some.ensures.value)

pub returns : goal.returns
returns c =
    run_found c.args.patch.now (c.args.archive, c.args.slot) c.in-Some.archive c.in-Some.slot c.run_length-count.result c.in-Some.field-0-1 c.cells_in_order.ensures.rise c.cells_in_order.ensures.placed
    c.cells_in_order.ensures.low (sym c.in-Some.ensures.value) c.run_length-count.ensures
