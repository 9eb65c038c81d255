use Rattle.std.proofs.Common.{drop}
use Rattle.render_plan.specs.Bounds.{end_within}
use Rattle.render_plan.specs.Sound.{AreSound}
use Rattle.render_plan.specs.Terms.{terms_of}
use Rattle.render_plan.proofs.ValueLemmas.{Reached}
use Rattle.render_plan.proofs.value.+value.Given as goal

abbrev pub invariant-values_of-loop-target : goal.invariant-values_of-loop-target
invariant-values_of-loop-target l =
    AreSound l.levels (terms_of (drop l.target-index l.target-items))
    × Reached (terms_of l.target-items) l.fn.rows.items (end_within l.levels) (terms_of (drop l.target-index l.target-items)) l.rows.items l.sets.items
