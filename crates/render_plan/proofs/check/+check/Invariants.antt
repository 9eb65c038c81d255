use Rattle.std.proofs.Common.{◌≡◌, ◌≤◌, drop}
use Rattle.target_parse.specs.Tree.{greatest_depth, trees_of}
use Rattle.render_plan.specs.Sound.{AreSound}
use Rattle.render_plan.specs.Terms.{terms_of}
use Rattle.render_plan.specs.Checked.{checked_all, terms_before}
use Rattle.render_plan.proofs.check.+check.Given as goal

abbrev pub invariant-checked_all-loop-argument : goal.invariant-checked_all-loop-argument
invariant-checked_all-loop-argument l =
    AreSound (greatest_depth (trees_of l.argument-items)) (terms_of l.targets.items)
    × (greatest_depth (trees_of (drop l.argument-index l.argument-items)) ≤ greatest_depth (trees_of l.argument-items))
    × (terms_before l.targets.items (checked_all (trees_of (drop l.argument-index l.argument-items))) ≡ checked_all (trees_of l.argument-items))
