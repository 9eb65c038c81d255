use Rattle.std.proofs.Common.{◌∙◌, ap}
use Rattle.ring_format.specs.Patch.{PatchValue}
use Rattle.archive_update.proofs.PlanLemmas.{no_homes, no_own}
use Rattle.archive_update.proofs.planning.plan.Goals as goal

pub returns-in-Ok-clause-cells : goal.returns-in-Ok-clause-cells
returns-in-Ok-clause-cells g c = (
  λ none. (c.in-Ok.ensures.alike.grows none, no_homes c.args.view.now.layout.archives c.args.now c.args.points.now (c.in-Ok.ensures.filled none)),
  λ all. ap (λ (patch : PatchValue). patch.cells) (c.in-Ok.ensures.untouched (λ i lt. no_own c.args.view.now.layout.archives c.args.now i c.args.points.now all.1)) ∙ all.0,
)
