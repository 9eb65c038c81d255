use Rattle.std.proofs.Common.{◌≡◌, ◌++◌, drop, cond, string_bytes}
use Rattle.target_parse.specs.Tree.{further_texts, texts_of, trees_of}
use Rattle.target_parse.proofs.print.+print.Given as goal

abbrev pub invariant-push_texts-loop-argument : goal.invariant-push_texts-loop-argument
invariant-push_texts-loop-argument l =
    string_bytes l.out ++ cond l.is_first (texts_of (trees_of (drop l.argument-index l.argument-items))) (further_texts (trees_of (drop l.argument-index l.argument-items)))
    ≡ string_bytes l.initial.out ++ texts_of (trees_of l.argument-items)
