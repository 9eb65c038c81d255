-- Which outputs the rules have for a path.
use Rattle.std.specs.Prelude.{ℕ, ◌+◌, List, [], ◌∷◌}
use Rattle.std.specs.Option.{option_map_or}
use Rattle.ring_format.specs.declared.archive.Method.{Method}
use Rattle.aggregate_front.specs.declared.hit.OutputKey.{OutputKey}
use Rattle.aggregate_rules.specs.RuleTexts.{RuleValue}
use Rattle.aggregate_rules.specs.Readings.{output_path}

-- an output, the seconds of its intervals, and its method
pub record HitValue : Type 0 where
  pub key : OutputKey
  pub seconds : ℕ
  pub method : Method

-- the output of a rule at a place for a path
abbrev pub hit_of : ℕ → RuleValue → List ℕ → HitValue
hit_of place rule path = record { key = record { rule = place; path = path }; seconds = rule.seconds; method = rule.method }

-- the outputs that these rules have for a path, in their order; the first of them has this place
unfoldable pub hits_from : ℕ → List RuleValue → List ℕ → List HitValue
hits_from place [] path = []
hits_from place (rule ∷ rules) path =
    option_map_or (λ output. hit_of place rule output ∷ hits_from (place + 1) rules path) (output_path rule path) (hits_from (place + 1) rules path)

abbrev pub hits_of : List RuleValue → List ℕ → List HitValue
hits_of rules path = hits_from 0 rules path
