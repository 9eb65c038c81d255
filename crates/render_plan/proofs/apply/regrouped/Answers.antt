use Rattle.std.proofs.Common.{rules}
use Rattle.render_plan.proofs.ApplyLemmas.{regrouped_made}
use Rattle.render_plan.proofs.apply.regrouped.Goals as goal

pub returns-clause-made : goal.returns-clause-made
returns-clause-made c =
    regrouped_made c.args.kind.now c.args.sets.items _ c.in_ok-set.set c.in_ok-set.ensures.ok c.in_ok-set.ensures.bounds (search rules)
