-- The rules of sections, or why a section is refused.
use Rattle.std.specs.Prelude.{ℕ, ◌+◌, ◌==◌, ◌||◌, not, List, [], ◌∷◌, ◌++◌, length, codes, Option, Some, None, Result, Ok, Err, if◌then◌else◌}
use Rattle.std.specs.Option.{option_map_or}
use Rattle.std.specs.Str.{bytes_eq}
use Rattle.fixed_num.specs.Read.{millionths_result}
use Rattle.ring_format.specs.declared.archive.Archive.{Archive}
use Rattle.ring_format.specs.declared.archive.Method.{Method}
use Rattle.ring_format.specs.declared.archive.Method.TheVariants.{Average, Sum, Last, Max, Min, AvgZero, AbsMax, AbsMin}
use Rattle.ring_format.specs.Layout.{layout_fault}
use Rattle.name_pattern.specs.Patterns.{is_readable}
use Rattle.schema_rules.specs.declared.fault.RuleCause.{RuleCause}
use Rattle.schema_rules.specs.declared.fault.RuleCause.TheVariants.{BadPattern, BadRetention, BadLayout, BadFactor, BadMethod}
use Rattle.schema_rules.specs.RuleLines.{SectionValue}
use Rattle.schema_rules.specs.Retentions.{archives_of}

-- the layout of a metric for which no section says more: an average, of which half must be known
abbrev pub default_factor : ℕ
default_factor = 500000

abbrev pub default_method : Method
default_method = Average

-- what is left of a section of the schema file
pub record SchemaValue : Type 0 where
  pub pattern : List ℕ
  pub archives : List Archive

-- what is left of a section of the aggregation file
pub record AggregationValue : Type 0 where
  pub pattern : List ℕ
  pub factor : ℕ
  pub method : Method

-- what follows where a part is read, and its fault where it is not
abbrev pub where_read : {T U : Type 0} → Result T RuleCause → (T → Result U RuleCause) → Result U RuleCause
where_read (Ok part) next = next part
where_read (Err cause) next = Err cause

-- ---- the schema file

unfoldable pub lawful_schema : ℕ → List ℕ → List Archive → Result (Option SchemaValue) RuleCause
lawful_schema n pattern archives =
    option_map_or (λ fault. Err (BadLayout n fault)) (layout_fault archives default_factor) (Ok (Some (record { pattern = pattern; archives = archives })))

-- the rule of the `n`th section, which is passed over without a pattern or without retentions
unfoldable pub schema_result : ℕ → SectionValue → Result (Option SchemaValue) RuleCause
schema_result n section =
    if length section.pattern == 0 || length section.retentions == 0 then Ok None else
    (if not (is_readable section.pattern) then Err (BadPattern n) else
    option_map_or (lawful_schema n section.pattern) (archives_of section.retentions) (Err (BadRetention n)))

-- rules with one more, where there is one
abbrev pub with_rule : {T : Type 0} → List T → Option T → List T
with_rule rules (Some rule) = rules ++ rule ∷ []
with_rule rules None = rules

-- the rules of these sections, the first of which has the number `n`, behind other rules
unfoldable pub schemas_from : List SchemaValue → ℕ → List SectionValue → Result (List SchemaValue) RuleCause
schemas_from rules n [] = Ok rules
schemas_from rules n (section ∷ more) = where_read (schema_result n section) (λ rule. schemas_from (with_rule rules rule) (n + 1) more)

-- ---- the aggregation file

unfoldable pub method_of_word : List ℕ → Option Method
method_of_word word =
    if bytes_eq word (codes "average") then Some Average else
    (if bytes_eq word (codes "sum") then Some Sum else
    (if bytes_eq word (codes "last") then Some Last else
    (if bytes_eq word (codes "max") then Some Max else
    (if bytes_eq word (codes "min") then Some Min else
    (if bytes_eq word (codes "avg_zero") then Some AvgZero else
    (if bytes_eq word (codes "absmax") then Some AbsMax else
    (if bytes_eq word (codes "absmin") then Some AbsMin else None)))))))

-- the factor of a section, in millionths, and its method, each with its default
abbrev pub or_bad_factor : {E : Type 0} → ℕ → Result ℕ E → Result ℕ RuleCause
or_bad_factor n (Ok factor) = Ok factor
or_bad_factor n (Err fault) = Err (BadFactor n)

unfoldable pub factor_result : ℕ → Option (List ℕ) → Result ℕ RuleCause
factor_result n None = Ok default_factor
factor_result n (Some text) = or_bad_factor n (millionths_result text)

unfoldable pub method_result : ℕ → Option (List ℕ) → Result Method RuleCause
method_result n None = Ok default_method
method_result n (Some word) = option_map_or (λ method. Ok method) (method_of_word word) (Err (BadMethod n))

-- the rule of the `n`th section, which is passed over without a pattern
unfoldable pub aggregation_result : ℕ → SectionValue → Result (Option AggregationValue) RuleCause
aggregation_result n section =
    if length section.pattern == 0 then Ok None else
    (if not (is_readable section.pattern) then Err (BadPattern n) else
    where_read (factor_result n section.factor) (λ factor.
    where_read (method_result n section.method) (λ method.
    Ok (Some (record { pattern = section.pattern; factor = factor; method = method })))))

unfoldable pub aggregations_from : List AggregationValue → ℕ → List SectionValue → Result (List AggregationValue) RuleCause
aggregations_from rules n [] = Ok rules
aggregations_from rules n (section ∷ more) = where_read (aggregation_result n section) (λ rule. aggregations_from (with_rule rules rule) (n + 1) more)
