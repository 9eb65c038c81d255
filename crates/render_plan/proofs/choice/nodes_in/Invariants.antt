use Rattle.std.proofs.Common.{◌≡◌, ◌++◌, drop, filter_map}
use Rattle.render_plan.specs.Terms.{node_in}
use Rattle.render_plan.proofs.choice.nodes_in.Given as goal

abbrev pub invariant-loop-argument : goal.invariant-loop-argument
invariant-loop-argument l = l.nodes.items ++ filter_map node_in (drop l.argument-index l.arguments) ≡ filter_map node_in l.arguments
