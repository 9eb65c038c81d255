-- The lines of aggregation-rules.conf, and the rules that they say: `OUTPUT (SECONDS) = METHOD PATTERN`.
use Rattle.std.specs.Prelude.{◌≡◌, ℕ, ◌+◌, ◌-◌, ◌==◌, Bool, true, false, ◌&&◌, ◌||◌, not, nat_lt, List, [], ◌∷◌, ◌++◌, length, take, drop, position, slice_index, codes, Option, Some, None, option_map, option_and_then, Result, Ok, Err, if◌then◌else◌}
use Rattle.std.specs.Char.{is_ascii_alphanumeric, is_ascii_digit}
use Rattle.std.specs.List.{list_all, list_any, slice_split}
use Rattle.std.specs.Option.{option_map_or}
use Rattle.std.specs.Str.{bytes_eq, is_utf8}
use Rattle.std.specs.Str.Parse.{digits_value}
use Rattle.metric_path.specs.Path.{is_dot, is_node_byte, nodes_of}
use Rattle.ring_format.specs.declared.archive.Method.{Method}
use Rattle.ring_format.specs.declared.archive.Method.TheVariants.{Average, Sum, Last, Max, Min}
use Rattle.rule_lines.specs.TextLines.{is_blank, is_passed_over, lines_of, without_first_blanks, without_last_blanks}
use Rattle.aggregate_rules.specs.declared.fault.AggCause.{AggCause}
use Rattle.aggregate_rules.specs.declared.fault.AggCause.TheVariants.{TooLong, Line}
use Rattle.aggregate_rules.specs.declared.fault.AggFault.{AggFault}
use Rattle.aggregate_rules.specs.declared.fault.AggFault.TheVariants.{Fault, NoMemory}
use Rattle.aggregate_rules.specs.declared.node.Gap.{Gap}
use Rattle.aggregate_rules.specs.declared.node.Gap.TheVariants.{Closed, Any, Named}
use Rattle.aggregate_rules.specs.declared.node.PatternNode.{PatternNode}
use Rattle.aggregate_rules.specs.declared.output.OutputPart.{OutputPart}
use Rattle.aggregate_rules.specs.declared.output.Output.{Output}

-- ---- bytes

-- a byte that stands for itself in a pattern: one that a node of a path may hold, and neither `<` nor `>`
abbrev pub is_plain : ℕ → Bool
is_plain b = is_node_byte b && (not (b == 60) && not (b == 62))

abbrev pub is_output_byte : ℕ → Bool
is_output_byte b = is_plain b || is_dot b

-- a letter, a digit or an underscore
abbrev pub is_name_byte : ℕ → Bool
is_name_byte b = is_ascii_alphanumeric b || b == 95

abbrev pub is_opening : ℕ → Bool
is_opening b = b == 60

abbrev pub is_closing : ℕ → Bool
is_closing b = b == 62

-- where a gap begins: `*` or `<`
abbrev pub is_gap_mark : ℕ → Bool
is_gap_mark b = b == 42 || b == 60

abbrev pub is_name : List ℕ → Bool
is_name text = not (length text == 0) && list_all is_name_byte text

abbrev pub any_empty : List (List ℕ) → Bool
any_empty nodes = list_any (λ node. length node == 0) nodes

-- ---- patterns

-- a node of a pattern, and the name of its gap: no bytes where it has none
pub record NodeValue : Type 0 where
  pub node : PatternNode
  pub name : List ℕ

abbrev pub node_value : List ℕ → Gap → List ℕ → List ℕ → NodeValue
node_value before gap name after = record { node = record { before = before; gap = gap; after = after }; name = name }

unfoldable pub closed_node : List ℕ → Option NodeValue
closed_node text = if length text == 0 || not (list_all is_plain text) then None else Some (node_value text Closed [] [])

unfoldable pub any_node : List ℕ → List ℕ → Option NodeValue
any_node before after = if not (list_all is_plain before) || not (list_all is_plain after) then None else Some (node_value before Any [] after)

unfoldable pub named_parts : List ℕ → List ℕ → List ℕ → Option NodeValue
named_parts before name after =
    if not (is_name name) || (not (list_all is_plain before) || not (list_all is_plain after)) then None else Some (node_value before Named name after)

unfoldable pub named_node : List ℕ → List ℕ → Option NodeValue
named_node before behind = option_and_then (λ at. named_parts before (take at behind) (drop (at + 1) behind)) (position is_closing behind)

-- a node whose first `*` or `<` stands at a place
unfoldable pub open_node : List ℕ → ℕ → Option NodeValue
open_node text at = if slice_index text at == 42 then any_node (take at text) (drop (at + 1) text) else named_node (take at text) (drop (at + 1) text)

-- The node of a pattern that a text is: one or more bytes that stand for themselves, with at most one `*` or `<name>` among them.
unfoldable pub node_of : List ℕ → Option NodeValue
node_of text = option_map_or (open_node text) (position is_gap_mark text) (closed_node text)

-- the nodes of a pattern, and the names of its gaps in their order
pub record PatternValue : Type 0 where
  pub nodes : List PatternNode
  pub names : List (List ℕ)

abbrev pub empty_pattern : PatternValue
empty_pattern = record { nodes = []; names = [] }

abbrev pub is_named : Gap → Bool
is_named Named = true
is_named _ = false

-- the names with one more, which is not there yet
abbrev pub with_name : List (List ℕ) → List ℕ → Option (List (List ℕ))
with_name names name = if list_any (bytes_eq name) names then None else Some (names ++ name ∷ [])

-- the pattern with one more node: none where the node's name stands in it already
unfoldable pub with_node : PatternValue → NodeValue → Option PatternValue
with_node pattern read =
    option_map (λ names. record { nodes = pattern.nodes ++ read.node ∷ []; names = names })
    (if is_named read.node.gap then with_name pattern.names read.name else Some pattern.names)

unfoldable pub after_node : PatternValue → List ℕ → Option PatternValue
after_node pattern text = option_and_then (with_node pattern) (node_of text)

unfoldable pub pattern_from : PatternValue → List (List ℕ) → Option PatternValue
pattern_from pattern [] = Some pattern
pattern_from pattern (text ∷ more) = option_and_then (λ next. pattern_from next more) (after_node pattern text)

-- The pattern that a text is: nodes joined by dots, in which no name stands twice.
abbrev pub pattern_of : List ℕ → Option PatternValue
pattern_of text = pattern_from empty_pattern (nodes_of text)

-- what an addition of a name comes to
abbrev pub AddsName : List (List ℕ) → List (List ℕ) → List ℕ → Bool → Type 0
AddsName old new name added = (if added then Some new else None) ≡ with_name old name

-- ---- outputs

unfoldable pub part_at : List (List ℕ) → List ℕ → List ℕ → Option OutputPart
part_at names name text =
    if not (list_all is_name_byte name) || not (list_all is_output_byte text) then None
    else option_map (λ number. record { name = number; text = text }) (position (bytes_eq name) names)

-- a name that `>` ends, as its number among the names of the pattern, and what stands behind it
unfoldable pub part_of : List (List ℕ) → List ℕ → Option OutputPart
part_of names piece = option_and_then (λ at. part_at names (take at piece) (drop (at + 1) piece)) (position is_closing piece)

unfoldable pub parts_from : List (List ℕ) → List OutputPart → List (List ℕ) → Option (List OutputPart)
parts_from names parts [] = Some parts
parts_from names parts (piece ∷ more) = option_and_then (λ part. parts_from names (parts ++ part ∷ []) more) (part_of names piece)

unfoldable pub with_front : List ℕ → List OutputPart → Option Output
with_front front parts = if not (list_all is_output_byte front) then None else Some (record { front = front; parts = parts })

unfoldable pub plain_output : List ℕ → Option Output
plain_output text = with_front text []

unfoldable pub named_output : List (List ℕ) → List ℕ → List ℕ → Option Output
named_output names front behind = option_and_then (with_front front) (parts_from names [] (slice_split is_opening behind))

-- The output that a text is: nodes joined by dots, of bytes that stand for themselves and of names of the pattern.
unfoldable pub output_of : List (List ℕ) → List ℕ → Option Output
output_of names text =
    if any_empty (nodes_of text) then None
    else option_map_or (λ at. named_output names (take at text) (drop (at + 1) text)) (position is_opening text) (plain_output text)

-- ---- rules

-- the most seconds of an interval: those of 365 days
abbrev pub most_seconds : ℕ
most_seconds = 31536000

-- a rule: to what the points of which metrics become, in intervals of so many seconds, and by which method
pub record RuleValue : Type 0 where
  pub output : Output
  pub seconds : ℕ
  pub method : Method
  pub nodes : List PatternNode

-- the words of a line
pub record Words : Type 0 where
  pub output : List ℕ
  pub seconds : List ℕ
  pub equals : List ℕ
  pub method : List ℕ
  pub pattern : List ℕ

-- a text in two parts
pub record TextCut : Type 0 where
  pub front : List ℕ
  pub rest : List ℕ

-- the word at the front of a text, and what stands behind the blanks that follow it
abbrev pub word_and_rest : List ℕ → Option TextCut
word_and_rest text = option_map (λ at. record { front = take at text; rest = without_first_blanks (drop (at + 1) text) }) (position is_blank text)

unfoldable pub words_of : List ℕ → Option Words
words_of line =
    option_and_then (λ a.
    option_and_then (λ b.
    option_and_then (λ c.
    option_map (λ d. record { output = a.front; seconds = b.front; equals = c.front; method = d.front; pattern = d.rest })
    (word_and_rest c.rest)) (word_and_rest b.rest)) (word_and_rest a.rest)) (word_and_rest line)

abbrev pub seconds_within : ℕ → Option ℕ
seconds_within number = if number == 0 || nat_lt most_seconds number then None else Some number

unfoldable pub seconds_in : List ℕ → Option ℕ
seconds_in digits = if not (list_all is_ascii_digit digits) then None else seconds_within (digits_value 10 digits)

-- the seconds of `(SECONDS)`: digits in brackets, from 1 to those of 365 days
unfoldable pub seconds_of : List ℕ → Option ℕ
seconds_of word =
    if nat_lt (length word) 2 || (not (slice_index word 0 == 40) || not (slice_index word (length word - 1) == 41)) then None
    else seconds_in (take (length word - 2) (drop 1 word))

unfoldable pub method_of : List ℕ → Option Method
method_of word =
    if bytes_eq word (codes "sum") then Some Sum else
    (if bytes_eq word (codes "avg") then Some Average else
    (if bytes_eq word (codes "min") then Some Min else
    (if bytes_eq word (codes "max") then Some Max else
    (if bytes_eq word (codes "last") then Some Last else None))))

unfoldable pub rule_of_words : Words → Option RuleValue
rule_of_words words =
    if not (bytes_eq words.equals (codes "=")) then None else
    option_and_then (λ seconds.
    option_and_then (λ method.
    option_and_then (λ pattern.
    option_map (λ output. record { output = output; seconds = seconds; method = method; nodes = pattern.nodes })
    (output_of pattern.names words.output)) (pattern_of words.pattern)) (method_of words.method)) (seconds_of words.seconds)

-- the rule that a line says, from which the blanks at its end are dropped
unfoldable pub rule_of : List ℕ → Option RuleValue
rule_of line = option_and_then rule_of_words (words_of line)

-- ---- the file

-- the most bytes of a file
abbrev pub most_file_bytes : ℕ
most_file_bytes = 1048576

-- the rules after a line: none where it is no UTF-8, or is neither empty nor a comment and says no rule
unfoldable pub after_line : List RuleValue → List ℕ → Option (List RuleValue)
after_line rules line =
    if not (is_utf8 line) then None else
    (if is_passed_over line then Some rules else
    option_map (λ rule. rules ++ rule ∷ []) (rule_of line))

-- the rules after these lines, the first of which has the number `n`, or the number of the first that may not stand there
unfoldable pub rules_from : List RuleValue → ℕ → List (List ℕ) → Result (List RuleValue) ℕ
rules_from rules n [] = Ok rules
rules_from rules n (line ∷ more) = option_map_or (λ next. rules_from next (n + 1) more) (after_line rules (without_last_blanks line)) (Err n)

abbrev pub line_rules : List ℕ → Result (List RuleValue) ℕ
line_rules file = rules_from [] 1 (lines_of file)

abbrev pub or_bad_line : Result (List RuleValue) ℕ → Result (List RuleValue) AggCause
or_bad_line (Ok rules) = Ok rules
or_bad_line (Err n) = Err (Line n)

-- The rules of a file in their order, or why it is refused: its length, and else its first line that is none of those which may stand.
unfoldable pub file_rules : List ℕ → Result (List RuleValue) AggCause
file_rules file = if nat_lt most_file_bytes (length file) then Err TooLong else or_bad_line (line_rules file)

-- a cause that is told is that of the definition; want of memory tells nothing
abbrev pub IsFaultOf : {T : Type 0} → Result T AggCause → AggFault → Type 0
IsFaultOf result (Fault cause) = result ≡ Err cause
IsFaultOf result NoMemory = Unit {0}
