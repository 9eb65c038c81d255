use Rattle.std.proofs.Common.{◌≡◌, ◌++◌, drop}
use Rattle.render_plan.specs.Needed.{needs_in_all}
use Rattle.render_plan.specs.Sound.{AreSound}
use Rattle.render_plan.specs.Terms.{terms_of}
use Rattle.render_plan.proofs.needs.+needs.Given as goal

abbrev pub invariant-push_all_needs-loop-target : goal.invariant-push_all_needs-loop-target
invariant-push_all_needs-loop-target l =
    AreSound l.levels (terms_of (drop l.target-index l.target-items))
    × (l.needs.items ++ needs_in_all l.ends.from l.ends.until l.shift (terms_of (drop l.target-index l.target-items)) ≡ l.initial.needs.items ++ needs_in_all l.ends.from l.ends.until l.shift (terms_of l.target-items))
