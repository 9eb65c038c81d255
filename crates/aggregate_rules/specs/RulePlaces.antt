-- Which rules a path may come to, by its first node.
use Rattle.std.specs.Prelude.{◌≡◌, ℕ, ◌+◌, ◌*◌, ◌%◌, ◌<◌, ◌≤◌, ◌==◌, ◌&&◌, ◌||◌, Bool, true, false, List, [], ◌∷◌, drop, fold, get_or, length, min, replicate, set, slice_get, slice_index_or, Option, Some, None, if◌then◌else◌}
use Rattle.std.specs.Option.{option_map_or}
use Rattle.metric_path.specs.Path.{nodes_of}
use Rattle.aggregate_rules.specs.declared.node.Gap.{Gap}
use Rattle.aggregate_rules.specs.declared.node.Gap.TheVariants.{Closed}
use Rattle.aggregate_rules.specs.declared.node.PatternNode.{PatternNode}
use Rattle.aggregate_rules.specs.RuleTexts.{RuleValue}

-- ---- classes of first nodes

-- how many classes there are
abbrev pub front_classes : ℕ
front_classes = 4097

abbrev pub hashed : ℕ → ℕ → ℕ
hashed n b = (n * 31 + b) % 4096

-- The class of a text: 0 where it has no bytes, and else one of the others by its bytes.
unfoldable pub class_of : List ℕ → ℕ
class_of text = if length text == 0 then 0 else 1 + fold hashed 0 text

abbrev pub is_closed : Gap → Bool
is_closed Closed = true
is_closed _ = false

-- the bytes of a node without a gap, and no bytes of one that has a gap
abbrev pub front_of : PatternNode → List ℕ
front_of node = if is_closed node.gap && length node.after == 0 then node.before else []

-- those of the first of these nodes
abbrev pub front_in : List PatternNode → List ℕ
front_in nodes = option_map_or front_of (slice_get nodes 0) []

-- the class of a rule: that of the first node of its pattern, or 0 where that has a gap
abbrev pub class_of_rule : RuleValue → ℕ
class_of_rule rule = class_of (front_in rule.nodes)

-- the class of a path: that of its first node
abbrev pub class_of_path : List ℕ → ℕ
class_of_path path = class_of (slice_index_or (nodes_of path) 0 [])

-- ---- places of rules

abbrev pub has_class : ℕ → RuleValue → Bool
has_class class rule = class_of_rule rule == class

-- whether a rule may have an output for a path of this class
abbrev pub may_fit : ℕ → RuleValue → Bool
may_fit class rule = has_class class rule || has_class 0 rule

-- the places of those of these rules that pass a test; the first of the rules has this place
abbrev pub places_from : (RuleValue → Bool) → ℕ → List RuleValue → List ℕ
places_from p place [] = []
places_from p place (rule ∷ rules) = if p rule then place ∷ places_from p (place + 1) rules else places_from p (place + 1) rules

-- the place of the first that passes
abbrev pub first_from : (RuleValue → Bool) → ℕ → List RuleValue → Option ℕ
first_from p place [] = None
first_from p place (rule ∷ rules) = if p rule then Some place else first_from p (place + 1) rules

-- The places of the rules that may have an output for a path, rising.
abbrev pub places_for : List RuleValue → List ℕ → List ℕ
places_for rules path = places_from (may_fit (class_of_path path)) 0 rules

-- ---- the index

-- of each class the place of its first rule, and of each rule the place of the next one of its class
pub record IndexValue : Type 0 where
  pub firsts : List (Option ℕ)
  pub nexts : List (Option ℕ)

-- no rule of so many classes, and room for so many rules
abbrev pub empty_index : ℕ → ℕ → IndexValue
empty_index classes rules = record { firsts = replicate classes None; nexts = replicate rules None }

-- the index with a rule before those of its class
abbrev pub with_rule : IndexValue → ℕ → ℕ → IndexValue
with_rule index place class = record { firsts = set index.firsts class (Some place); nexts = set index.nexts place (get_or index.firsts class None) }

-- the index of the rules from a place on
pub record IsIndexFrom (rules : List RuleValue) (place : ℕ) (index : IndexValue) : Type 0 where
  pub classes : length index.firsts ≡ front_classes
  pub firsts : (class : ℕ) → class < front_classes → slice_get index.firsts class ≡ Some (first_from (has_class class) place (drop place rules))
  pub count : length index.nexts ≡ length rules
  pub nexts : (i : ℕ) (rule : RuleValue) → place ≤ i → slice_get rules i ≡ Some rule
      → slice_get index.nexts i ≡ Some (first_from (has_class (class_of_rule rule)) (i + 1) (drop (i + 1) rules))

-- whether this is the place of the first rule of a class, of those from a place on
abbrev pub IsFirst : List RuleValue → ℕ → ℕ → Option ℕ → Type 0
IsFirst rules class from first = first ≡ first_from (has_class class) from (drop from rules)

-- the place from which on rules are looked for behind the last one found
abbrev pub behind_last : Option ℕ → ℕ
behind_last None = 0
behind_last (Some place) = place + 1

-- the lower of two places, where there are two
abbrev pub least_of : Option ℕ → Option ℕ → Option ℕ
least_of None common = common
least_of (Some own) None = Some own
least_of (Some own) (Some common) = Some (min own common)
