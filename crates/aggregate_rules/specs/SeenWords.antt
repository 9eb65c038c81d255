-- What contracts see of the parts of a text.
use Rattle.std.specs.Prelude.{ℕ, List, [], Option, Some, None}
use Rattle.metric_path.specs.Path.{nodes_of}
use Rattle.aggregate_rules.specs.declared.node.NodeText.{NodeText}
use Rattle.aggregate_rules.specs.declared.words.LineWords.{LineWords}
use Rattle.aggregate_rules.specs.declared.cut.Cut.{Cut}
use Rattle.aggregate_rules.specs.RuleTexts.{NodeValue, TextCut, Words, node_value}

abbrev pub seen_cut : Cut → TextCut
seen_cut cut = record { front = cut.front.now; rest = cut.rest.now }

abbrev pub seen_node : NodeText → NodeValue
seen_node text = node_value text.before.now text.gap text.name.now text.after.now

abbrev pub seen_words : LineWords → Words
seen_words words = record { output = words.output.now; seconds = words.seconds.now; equals = words.equals.now; method = words.method.now; pattern = words.pattern.now }

-- the nodes of what is left of a path
abbrev pub left_nodes : Option (List ℕ) → List (List ℕ)
left_nodes None = []
left_nodes (Some text) = nodes_of text
