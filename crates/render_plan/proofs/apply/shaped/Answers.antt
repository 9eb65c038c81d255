use Rattle.render_plan.proofs.ApplyLemmas.{early_enough, shaped_made}
use Rattle.render_plan.proofs.apply.shaped.Goals as goal

pub shape-requires-clause-early : goal.shape-requires-clause-early
shape-requires-clause-early c =
    early_enough c.args.kind.now c.args.sets.items c.taken-first.result c.taken-first.ensures c.requires.sound c.requires.limited

pub returns-clause-made : goal.returns-clause-made
returns-clause-made c =
    shaped_made c.args.kind.now _ _ c.args.sets.items c.taken-first.result c.in_ok-set.set c.taken-first.ensures c.requires.sound c.in_ok-set.ensures.ok c.in_ok-set.ensures.bounds
