use Rattle.render_plan.proofs.ApplyLemmas.{choice_made}
use Rattle.render_plan.proofs.apply.chosen.Goals as goal

pub returns-clause-made : goal.returns-clause-made
returns-clause-made c = choice_made c.args.kind.now c.args.sets.items c.taken-first.result c.in_ok-set.set c.taken-first.ensures c.in_ok-set.ensures
