use Rattle.std.proofs.Common.{◌≡◌, All, drop}
use Rattle.target_parse.specs.Tree.{trees_of}
use Rattle.render_plan.specs.Arguments.{IsInRange, arguments_of}
use Rattle.render_plan.proofs.TakenLemmas.{taken_before}
use Rattle.render_plan.proofs.argument.arguments_of.Given as goal

abbrev pub invariant-loop-argument : goal.invariant-loop-argument
invariant-loop-argument l =
    All IsInRange l.taken.items
    × (taken_before l.taken.items (arguments_of l.rest (trees_of (drop l.argument-index l.argument-items))) ≡ arguments_of l.takes (trees_of l.argument-items))
