-- The last line of a run that failed, and what is written before it.
use Rattle.std.specs.Prelude.{ℕ, List, ◌++◌, codes, decimal}
use Rattle.schema_rules.specs.declared.fault.RuleFile.{RuleFile}
use Rattle.schema_rules.specs.declared.fault.RuleCause.{RuleCause}
use Rattle.schema_rules.specs.declared.fault.RuleCause.TheVariants.{TooLong, Line, BadPattern, BadRetention, BadLayout, BadFactor, BadMethod}
use Rattle.aggregate_rules.specs.declared.fault.AggCause.{AggCause}
use Rattle.aggregate_rules.specs.declared.fault.AggCause.TheVariants as agg
use Rattle.shared_store.specs.declared.tally.Tally.{Tally}
use Rattle.carbon_run.specs.Conf.{agg_rules_name, rule_file_name}

unfoldable pub usage_line : List ℕ
usage_line = codes "carbon: usage\n"

unfoldable pub read_fault_line : List ℕ
read_fault_line = codes "carbon: read fault\n"

unfoldable pub no_memory_line : List ℕ
no_memory_line = codes "carbon: no memory\n"

unfoldable pub limit_line : List ℕ
limit_line = codes "carbon: limit\n"

unfoldable pub damaged_word : List ℕ
damaged_word = codes "carbon: damaged file "

-- the line of a damaged file, by its name
abbrev pub damaged_line : List ℕ → List ℕ
damaged_line name = damaged_word ++ (name ++ codes "\n")

unfoldable pub disk_fault_word : List ℕ
disk_fault_word = codes "carbon: disk fault class "

-- the line of a failed disk, by its class
abbrev pub disk_fault_line : ℕ → List ℕ
disk_fault_line class = disk_fault_word ++ (decimal class ++ codes "\n")

unfoldable pub conf_fault_line : List ℕ
conf_fault_line = codes "carbon: disk fault conf\n"

unfoldable pub no_port_line : List ℕ
no_port_line = codes "carbon: no port\n"

-- ---- the end of a server

unfoldable pub stored_word : List ℕ
stored_word = codes "stored "

unfoldable pub replaced_word : List ℕ
replaced_word = codes " replaced "

unfoldable pub full_word : List ℕ
full_word = codes " full "

unfoldable pub drains_word : List ℕ
drains_word = codes " drains "

abbrev pub counted : List ℕ → ℕ → List ℕ
counted word count = word ++ decimal count

-- how many points were put, by how that ended, and how many metrics were drained
abbrev pub tally_line : Tally → List ℕ
tally_line t =
    counted stored_word t.stored
    ++ (counted replaced_word t.replaced ++ (counted full_word t.full ++ (counted drains_word t.drains ++ codes "\n")))

-- ---- a refused rule file

unfoldable pub carbon_word : List ℕ
carbon_word = codes "carbon: "

unfoldable pub too_long_word : List ℕ
too_long_word = codes " too long"

unfoldable pub line_word : List ℕ
line_word = codes " line "

unfoldable pub section_word : List ℕ
section_word = codes " section "

-- what is bad in a section
unfoldable pub bad_pattern : List ℕ
bad_pattern = codes "bad pattern"

unfoldable pub bad_retentions : List ℕ
bad_retentions = codes "bad retentions"

unfoldable pub bad_layout : List ℕ
bad_layout = codes "bad layout"

unfoldable pub bad_factor : List ℕ
bad_factor = codes "bad xFilesFactor"

unfoldable pub bad_method : List ℕ
bad_method = codes "bad aggregationMethod"

abbrev pub section_text : ℕ → List ℕ → List ℕ
section_text number what = section_word ++ (decimal number ++ (codes ": " ++ what))

-- what stands behind the file's name
unfoldable pub cause_text : RuleCause → List ℕ
cause_text TooLong = too_long_word
cause_text (Line number) = line_word ++ decimal number
cause_text (BadPattern number) = section_text number bad_pattern
cause_text (BadRetention number) = section_text number bad_retentions
cause_text (BadLayout number fault) = section_text number bad_layout
cause_text (BadFactor number) = section_text number bad_factor
cause_text (BadMethod number) = section_text number bad_method

-- the line of a refused rule file, by its name and the cause
abbrev pub rule_fault_line : RuleFile → RuleCause → List ℕ
rule_fault_line file cause = carbon_word ++ (rule_file_name file ++ (cause_text cause ++ codes "\n"))

-- ---- refused aggregation rules

unfoldable pub agg_cause_text : AggCause → List ℕ
agg_cause_text agg.TooLong = too_long_word
agg_cause_text (agg.Line number) = line_word ++ decimal number

abbrev pub agg_fault_line : AggCause → List ℕ
agg_fault_line cause = carbon_word ++ (agg_rules_name ++ (agg_cause_text cause ++ codes "\n"))
