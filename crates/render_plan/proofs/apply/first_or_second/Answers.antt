use Rattle.render_plan.proofs.ApplyLemmas.{first_made, second_made}
use Rattle.render_plan.proofs.apply.first_or_second.Goals as goal

pub returns-then-len-gt0-clause-made : goal.returns-then-len-gt0-clause-made
returns-then-len-gt0-clause-made c = first_made c.args.sets.items c.taken.result c.taken.ensures

pub returns-clause-made : goal.returns-clause-made
returns-clause-made c = second_made c.args.sets.items c.taken-2.result c.taken-2.ensures
