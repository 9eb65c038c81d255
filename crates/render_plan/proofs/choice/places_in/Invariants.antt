use Rattle.std.proofs.Common.{◌≡◌, ◌++◌, drop, filter_map}
use Rattle.render_plan.specs.Terms.{place_in}
use Rattle.render_plan.proofs.choice.places_in.Given as goal

abbrev pub invariant-loop-argument : goal.invariant-loop-argument
invariant-loop-argument l = l.places.items ++ filter_map place_in (drop l.argument-index l.arguments) ≡ filter_map place_in l.arguments
