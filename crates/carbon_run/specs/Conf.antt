-- The rules in the folder of the configuration.
use Rattle.std.specs.Prelude.{◌≡◌, ℕ, ◌+◌, List, [], take, codes, Option, IfSome, Result, Err, IsOk}
use Rattle.std.specs.Option.{unwrap_or}
use Rattle.outside_io.specs.Image.{Image}
use Rattle.schema_rules.specs.declared.fault.RuleFile.{RuleFile}
use Rattle.schema_rules.specs.declared.fault.RuleFile.TheVariants.{Schemas, Aggregations}
use Rattle.schema_rules.specs.declared.fault.RuleFault.{RuleFault}
use Rattle.schema_rules.specs.declared.fault.RuleFault.TheVariants.{Fault}
use Rattle.schema_rules.specs.RulesOf.{RulesValue, most_file_bytes, rules_result}
use Rattle.aggregate_rules.specs.RuleTexts.{RuleValue, file_rules}
use Rattle.aggregate_rules.specs.declared.fault.AggCause.{AggCause}
use Rattle.carbon_run.specs.declared.conf.ConfFault.{ConfFault}
use Rattle.carbon_run.specs.declared.conf.ConfFault.TheVariants.{DiskFault, Refused, RefusedAgg, NoMemory}

-- the bytes of a file: none where it is not there
abbrev pub bytes_of : Image → List ℕ → List ℕ
bytes_of image name = unwrap_or (image name) []

-- the names of the two files
unfoldable pub schemas_name : List ℕ
schemas_name = codes "storage-schemas.conf"

unfoldable pub aggregations_name : List ℕ
aggregations_name = codes "storage-aggregation.conf"

-- and of the file that a server reads beside them
unfoldable pub agg_rules_name : List ℕ
agg_rules_name = codes "aggregation-rules.conf"

abbrev pub rule_file_name : RuleFile → List ℕ
rule_file_name Schemas = schemas_name
rule_file_name Aggregations = aggregations_name

-- what the two rule files of a folder say
abbrev pub rules_in : Image → Result RulesValue RuleFault
rules_in image = rules_result (bytes_of image schemas_name) (bytes_of image aggregations_name)

-- what the file of a server's aggregation rules says
abbrev pub agg_rules_in : Image → Result (List RuleValue) AggCause
agg_rules_in image = file_rules (bytes_of image agg_rules_name)

-- the file and the cause that are told are the first fault of the two files; or these say rules, and the fault is that of the aggregation rules
abbrev pub IsRefused : ConfFault → Image → Type 0
IsRefused (Refused file cause) image = rules_in image ≡ Err (Fault file cause)
IsRefused (RefusedAgg cause) image = IsOk (rules_in image) × (agg_rules_in image ≡ Err cause)
IsRefused DiskFault image = Unit {0}
IsRefused NoMemory image = Unit {0}

-- the fault is none of the aggregation rules
abbrev pub IsOfRules : ConfFault → Type 0
IsOfRules (Refused file cause) = Unit {0}
IsOfRules (RefusedAgg cause) = ⊥
IsOfRules DiskFault = Unit {0}
IsOfRules NoMemory = Unit {0}

-- the cause that is told is that of the aggregation rules
abbrev pub IsRefusedAgg : ConfFault → Image → Type 0
IsRefusedAgg (Refused file cause) image = ⊥
IsRefusedAgg (RefusedAgg cause) image = agg_rules_in image ≡ Err cause
IsRefusedAgg DiskFault image = Unit {0}
IsRefusedAgg NoMemory image = Unit {0}

-- ---- how a file is read

-- the bytes of a file as far as they tell its rules: one more than a file may have tells that it is too long
unfoldable pub front_of : List ℕ → List ℕ
front_of file = take (most_file_bytes + 1) file

-- the bytes are that front of the file of this name, where the disk tells its image
abbrev pub ReadsFront : Option Image → List ℕ → List ℕ → Type 0
ReadsFront known name bytes = IfSome known (λ image. bytes ≡ front_of (bytes_of image name))

-- a fault of the disk or of memory, by which no file is refused
abbrev pub IsOfReading : ConfFault → Type 0
IsOfReading (Refused file cause) = ⊥
IsOfReading (RefusedAgg cause) = ⊥
IsOfReading DiskFault = Unit {0}
IsOfReading NoMemory = Unit {0}

-- the fault is what the reading of the rules came to, or want of memory
abbrev pub Answers : Result RulesValue RuleFault → ConfFault → Type 0
Answers result (Refused file cause) = result ≡ Err (Fault file cause)
Answers result (RefusedAgg cause) = ⊥
Answers result DiskFault = ⊥
Answers result NoMemory = Unit {0}

-- the same of the aggregation rules
abbrev pub AnswersAgg : Result (List RuleValue) AggCause → ConfFault → Type 0
AnswersAgg result (Refused file cause) = ⊥
AnswersAgg result (RefusedAgg cause) = result ≡ Err cause
AnswersAgg result DiskFault = ⊥
AnswersAgg result NoMemory = Unit {0}
