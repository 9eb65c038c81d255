use Rattle.std.proofs.Common.{◌≡◌, ◌++◌, drop, string_bytes}
use Rattle.target_parse.specs.Tree.{further_texts, trees_of}
use Rattle.render_plan.proofs.operation.further_texts.Given as goal

abbrev pub invariant-loop-argument : goal.invariant-loop-argument
invariant-loop-argument l =
    string_bytes l.texts ++ further_texts (trees_of (drop l.argument-index l.arguments)) ≡ further_texts (trees_of l.arguments)
