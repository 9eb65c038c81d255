use Rattle.std.proofs.Common.{◌≡◌, sym, ◌∙◌, Some, rules}
use Rattle.std.proofs.lemmas.List.{take_rest}
use Rattle.std.specs.List.{position}
use Rattle.metric_path.specs.Path.{is_dot}
use Rattle.rule_lines.proofs.SplitLemmas.{split_first, split_nowhere}
use Rattle.aggregate_rules.proofs.text.next_node.Goals as goal

pub returns-in-Some : goal.returns-in-Some
returns-in-Some c =
    let found : position is_dot c.args.text.now ≡ Some c.in-Some.at = sym c.dot_in.ensures.value ∙ c.in-Some.is in
    (rw take_rest (split_first is_dot c.args.text.now c.in-Some.at found), search rules)

pub returns-in-None : goal.returns-in-None
returns-in-None c = split_nowhere is_dot c.args.text.now (sym c.dot_in.ensures.value ∙ c.in-None.is)
