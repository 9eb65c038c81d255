use Rattle.std.proofs.Common.{◌+◌, ◌≤◌, arith}
use Rattle.write_shelf.proofs.RunLemmas.{behind_low}
use Rattle.write_shelf.proofs.run_search.run_length.Goals as goal

pub overflow_add-slot : goal.overflow_add-slot
overflow_add-slot c =
    let low : c.args.slot + c.loop-count.count ≤ 4000000 = behind_low c.args.patch.now.cells c.args.archive c.args.slot c.loop-count.count c.requires.low c.loop-count.auto.count c.loop-count.invariant in
    omega arith
