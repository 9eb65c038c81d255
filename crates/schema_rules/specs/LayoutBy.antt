-- The layout that the rules give a path.
use Rattle.std.specs.Prelude.{ℕ, List, [], ◌∷◌, find, Option}
use Rattle.std.specs.Option.{option_map_or}
use Rattle.ring_format.specs.declared.archive.Archive.{Archive}
use Rattle.ring_format.specs.Layout.{LayoutValue}
use Rattle.name_pattern.specs.Patterns.{is_found}
use Rattle.schema_rules.specs.RuleSections.{SchemaValue, AggregationValue, default_factor, default_method}
use Rattle.schema_rules.specs.RulesOf.{RulesValue}

-- a week of minutes
abbrev pub default_archives : List Archive
default_archives = record { step = 60; points = 10080 } ∷ []

-- the first section whose pattern is found in the path
abbrev pub schema_for : List SchemaValue → List ℕ → Option SchemaValue
schema_for schemas path = find (λ schema. is_found schema.pattern path) schemas

abbrev pub aggregation_for : List AggregationValue → List ℕ → Option AggregationValue
aggregation_for aggregations path = find (λ aggregation. is_found aggregation.pattern path) aggregations

-- the layout with the archives of a section, and the method and the factor of one, each with its default
unfoldable pub layout_under : Option SchemaValue → Option AggregationValue → LayoutValue
layout_under schema aggregation = record {
  archives = option_map_or (λ schema. schema.archives) schema default_archives;
  method = option_map_or (λ aggregation. aggregation.method) aggregation default_method;
  factor = option_map_or (λ aggregation. aggregation.factor) aggregation default_factor;
}

-- The layout of a path: that with the first section of each file whose pattern is found in it.
unfoldable pub layout_by : RulesValue → List ℕ → LayoutValue
layout_by rules path = layout_under (schema_for rules.schemas path) (aggregation_for rules.aggregations path)
