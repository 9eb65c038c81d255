use Rattle.std.proofs.Common.{◌≡◌}
use Rattle.render_plan.specs.Values.{concat}
use Rattle.render_plan.proofs.apply.concat.Given as goal

abbrev pub invariant-loop-set : goal.invariant-loop-set
invariant-loop-set l = l.all.items ≡ concat l.yielded
