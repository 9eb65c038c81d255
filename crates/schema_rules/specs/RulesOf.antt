-- The rules of the two files, or the first fault.
use Rattle.std.specs.Prelude.{◌≡◌, ℕ, nat_lt, List, [], length, Result, Ok, Err, if◌then◌else◌}
use Rattle.schema_rules.specs.declared.fault.RuleFile.{RuleFile}
use Rattle.schema_rules.specs.declared.fault.RuleFile.TheVariants.{Schemas, Aggregations}
use Rattle.schema_rules.specs.declared.fault.RuleCause.{RuleCause}
use Rattle.schema_rules.specs.declared.fault.RuleCause.TheVariants.{TooLong, Line}
use Rattle.schema_rules.specs.declared.fault.RuleFault.{RuleFault}
use Rattle.schema_rules.specs.declared.fault.RuleFault.TheVariants.{Fault}
use Rattle.schema_rules.specs.declared.fault.Stop.{Stop}
use Rattle.schema_rules.specs.declared.fault.Stop.TheVariants.{Cause, OutOfMemory}
use Rattle.schema_rules.specs.RuleLines.{SectionValue, sections_of}
use Rattle.schema_rules.specs.RuleSections.{SchemaValue, AggregationValue, where_read, schemas_from, aggregations_from}

-- What contracts see of the rules: the sections of both files that are not passed over, in their order.
pub record RulesValue : Type 0 where
  pub schemas : List SchemaValue
  pub aggregations : List AggregationValue

-- the most bytes of a file
abbrev pub most_file_bytes : ℕ
most_file_bytes = 1048576

abbrev pub or_bad_line : Result (List SectionValue) ℕ → Result (List SectionValue) RuleCause
or_bad_line (Ok sections) = Ok sections
or_bad_line (Err n) = Err (Line n)

-- the sections of a file, which is not to be too long
unfoldable pub file_sections : List ℕ → Result (List SectionValue) RuleCause
file_sections file = if nat_lt most_file_bytes (length file) then Err TooLong else or_bad_line (sections_of file)

unfoldable pub schemas_result : List ℕ → Result (List SchemaValue) RuleCause
schemas_result file = where_read (file_sections file) (schemas_from [] 1)

unfoldable pub aggregations_result : List ℕ → Result (List AggregationValue) RuleCause
aggregations_result file = where_read (file_sections file) (aggregations_from [] 1)

-- what follows where a file is read, and the file's fault where it is not
abbrev pub in_file : {T : Type 0} → RuleFile → Result T RuleCause → (T → Result RulesValue RuleFault) → Result RulesValue RuleFault
in_file file (Ok rules) next = next rules
in_file file (Err cause) next = Err (Fault file cause)

-- The rules of the two files, or the first fault: those of the schema file before those of the aggregation
-- file. In a file it is its length, then its first bad line, and then the sections in order, each with its pattern,
-- its retentions and its layout, or its pattern, its factor and its method.
unfoldable pub rules_result : List ℕ → List ℕ → Result RulesValue RuleFault
rules_result schemas aggregations =
    in_file Schemas (schemas_result schemas) (λ s.
    in_file Aggregations (aggregations_result aggregations) (λ a.
    Ok (record { schemas = s; aggregations = a })))

-- a cause at which reading stops is that of the definition; want of memory tells nothing
abbrev pub Stops : {T : Type 0} → Result T RuleCause → Stop → Type 0
Stops result (Cause cause) = result ≡ Err cause
Stops result OutOfMemory = Unit {0}
