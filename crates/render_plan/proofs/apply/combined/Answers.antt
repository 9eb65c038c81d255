use Rattle.std.proofs.Common.{rules}
use Rattle.render_plan.proofs.ApplyLemmas.{combined_made}
use Rattle.render_plan.proofs.apply.combined.Goals as goal

pub returns-clause-made : goal.returns-clause-made
returns-clause-made c =
    combined_made c.args.kind c.args.sets.items _ c.args.name.now c.args.path.now c.in_ok-set.set c.in_ok-set.ensures.ok c.in_ok-set.ensures.bounds (search rules)
