-- How the pattern of a rule reads a path, and the path that the rule's output makes of it.
use Rattle.std.specs.Prelude.{◌≡◌, ◌↔◌, ℕ, ◌+◌, ◌-◌, ◌==◌, ◌<◌, Bool, true, not, nat_lt, List, [], ◌∷◌, ◌++◌, length, take, drop, slice_index_or, Option, Some, None, option_and_then, Result, Ok, Err, if◌then◌else◌}
use Rattle.std.specs.Str.{bytes_eq}
use Rattle.metric_path.specs.Path.{legal_path, nodes_of}
use Rattle.metric_path.specs.declared.path.PathFault.{PathFault}
use Rattle.aggregate_rules.specs.declared.node.Gap.{Gap}
use Rattle.aggregate_rules.specs.declared.node.Gap.TheVariants.{Closed, Any, Named}
use Rattle.aggregate_rules.specs.declared.node.PatternNode.{PatternNode}
use Rattle.aggregate_rules.specs.declared.output.OutputPart.{OutputPart}
use Rattle.aggregate_rules.specs.declared.output.Output.{Output}
use Rattle.aggregate_rules.specs.RuleTexts.{RuleValue, is_named}

-- ---- the reading, as a relation

-- a row of bytes may stand in a gap
abbrev pub Fills : Gap → List ℕ → Type 0
Fills Closed row = row ≡ []
Fills Any row = Unit {0}
Fills Named row = 0 < length row

-- a node of a pattern covers a node of a path, in order, with this row in its gap
pub record Covers (node : PatternNode) (text row : List ℕ) : Type 0 where
  pub covered : text ≡ node.before ++ (row ++ node.after)
  pub filled : Fills node.gap row

-- The nodes of a pattern cover those of a path, one each, with these rows under the pattern's names, in their order.
abbrev pub Reads : List PatternNode → List (List ℕ) → List (List ℕ) → Type 0
Reads [] [] rows = rows ≡ []
Reads [] (text ∷ texts) rows = ⊥
Reads (node ∷ nodes) [] rows = ⊥
Reads (node ∷ nodes) (text ∷ texts) rows =
    (row : List ℕ) × (more : List (List ℕ)) × Covers node text row × Reads nodes texts more × (rows ≡ (if is_named node.gap then row ∷ more else more))

-- ---- the reading, as a function

abbrev pub fills : Gap → List ℕ → Bool
fills Closed row = length row == 0
fills Any row = true
fills Named row = nat_lt 0 (length row)

abbrev pub filled_gap : Gap → List ℕ → Option (List ℕ)
filled_gap gap row = if fills gap row then Some row else None

-- the row in the gap of a node that covers a text
unfoldable pub covered : PatternNode → List ℕ → Option (List ℕ)
covered node text =
    if nat_lt (length text) (length node.before + length node.after) then None else
    (if not (bytes_eq (take (length node.before) text) node.before) then None else
    (if not (bytes_eq (drop (length text - length node.after) text) node.after) then None else
    filled_gap node.gap (take (length text - length node.after - length node.before) (drop (length node.before) text))))

abbrev pub with_row : List (List ℕ) → Gap → List ℕ → List (List ℕ)
with_row rows gap row = if is_named gap then rows ++ row ∷ [] else rows

-- the rows under the names of a pattern that covers these nodes, behind other rows
unfoldable pub reading : List (List ℕ) → List PatternNode → List (List ℕ) → Option (List (List ℕ))
reading rows [] [] = Some rows
reading rows [] (text ∷ texts) = None
reading rows (node ∷ nodes) [] = None
reading rows (node ∷ nodes) (text ∷ texts) = option_and_then (λ row. reading (with_row rows node.gap row) nodes texts) (covered node text)

-- ---- outputs

-- the names of an output replaced by their rows, each with what stands behind it
unfoldable pub parts_text : List (List ℕ) → List OutputPart → List ℕ
parts_text rows [] = []
parts_text rows (part ∷ parts) = slice_index_or rows part.name [] ++ (part.text ++ parts_text rows parts)

unfoldable pub filled : Output → List (List ℕ) → List ℕ
filled output rows = output.front ++ parts_text rows output.parts

-- a text where it is a legal path
abbrev pub if_legal : Result (List ℕ) PathFault → Option (List ℕ)
if_legal (Ok path) = Some path
if_legal (Err fault) = None

-- The path of a rule's output for a path: none where the pattern does not cover it, or what the output makes of it is no legal path.
unfoldable pub output_path : RuleValue → List ℕ → Option (List ℕ)
output_path rule path = option_and_then (λ rows. if_legal (legal_path (filled rule.output rows))) (reading [] rule.nodes (nodes_of path))

-- A path is read in one way at most: its reading is the one row of rows with which the pattern covers it.
abbrev pub IsReadInOneWay : Type 0
IsReadInOneWay = (nodes : List PatternNode) (texts rows : List (List ℕ)) → reading [] nodes texts ≡ Some rows ↔ Reads nodes texts rows
