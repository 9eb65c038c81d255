use Rattle.std.proofs.Common.{rules}
use Rattle.render_plan.proofs.CheckLemmas.{all_done}
use Rattle.render_plan.proofs.check.+check.Goals as goal

pub checked_all-returns-clause-ok : goal.checked_all-returns-clause-ok
checked_all-returns-clause-ok m c =
    let done = all_done c.loop-argument.targets.items c.deref-argument-items.result.now c.loop-argument.argument-index _ c.loop-argument.invariant.2 (search rules) in
    let same = c.deref-argument-items.ensures.value in
    search (done, same, rules)
