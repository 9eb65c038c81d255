-- What a run of each command comes to.
use Rattle.std.specs.Prelude.{◌≡◌, ◌⊎◌, ℕ, List, IfSome, Ok}
use Rattle.outside_io.specs.declared.disk.Disk.{Ghosts}
use Rattle.carbon_model.specs.RingFiles.{Settings}
use Rattle.schema_rules.specs.LayoutBy.{layout_by}
use Rattle.schema_rules.specs.RulesOf.{RulesValue}
use Rattle.aggregate_rules.specs.RuleTexts.{RuleValue}
use Rattle.carbon_serve.specs.Courses.{Staff}
use Rattle.carbon_serve.specs.Deeds.{Telling}
use Rattle.carbon_words.specs.declared.command.Command.{Command}
use Rattle.carbon_words.specs.declared.command.Command.TheVariants.{Sample, Script, Serve}
use Rattle.carbon_words.specs.declared.command.Options.{Options}
use Rattle.carbon_words.specs.declared.command.ServeOptions.{ServeOptions}
use Rattle.carbon_run.specs.Conf.{agg_rules_in, rules_in}
use Rattle.carbon_run.specs.Runs.{Answer, NoRules, NoStart, NoWords, ReadsAgg, Scripted, Streams}
use Rattle.carbon_run.specs.Samples.{SampleRuns}
use Rattle.carbon_run.specs.Serves.{ServeRuns, duties_of, passes_for}

-- what is fixed for a run by its rules and by what its words say
abbrev pub settings_by : RulesValue → Options → Settings
settings_by rules said = record { rules = layout_by rules; limit = said.limit; strategy = said.order }

-- what is beside the disks: the clock's moments, what links tell of themselves by the rules that gather their points, and the net before and after the
-- run, with its count of failed calls
pub record Beside (E L : Type 0) : Type 1 where
  pub faults : E → ℕ
  pub moments : ℕ → Type 0
  pub links : List RuleValue → Telling L
  pub net : E
  pub net' : E

abbrev pub beside : {E L : Type 0} → (E → ℕ) → (ℕ → Type 0) → (List RuleValue → Telling L) → E → E → Beside E L
beside faults moments links net net' = record { faults = faults; moments = moments; links = links; net = net; net' = net' }

-- who serves, by the aggregation rules and the options of a server
abbrev pub staff_by : {E L : Type 0} → Beside E L → List RuleValue → ServeOptions → Staff L
staff_by b agg options = record { moments = b.moments; links = b.links agg; duties = duties_of options; passes = passes_for options }

-- What a command does with these rules: a script runs, that of the input or that of a sample, and touches no net; or a net is served, by the aggregation
-- rules too.
abbrev pub Does : {D E L : Type 0} → Ghosts D → Beside E L → RulesValue → List RuleValue → Command → Streams → List D → Answer D → Type 0
Does d b rules agg (Script said) streams disks answer =
    (b.net' ≡ b.net) × (NoStart d streams disks answer ⊎ Scripted d (settings_by rules said) said.redo streams disks answer)
Does d b rules agg (Sample said more) streams disks answer =
    (b.net' ≡ b.net) × SampleRuns d (settings_by rules said) said.redo more streams disks answer
Does d b rules agg (Serve said more) streams disks answer =
    ServeRuns d b.faults b.net b.net' (settings_by rules said) said.redo (staff_by b agg more) streams disks answer

-- both rule files are read, and these are the rules that they give; a server has read its aggregation rules too
pub record HasRules {D E L : Type 0} (d : Ghosts D) (b : Beside E L) (command : Command) (folder : D) (streams : Streams) (disks : List D) (answer : Answer D) : Type 0 where
  pub rules : RulesValue
  pub read : IfSome (d.image folder) (λ image. rules_in image ≡ Ok rules)
  pub agg : List RuleValue
  pub gathers : ReadsAgg command → IfSome (d.image folder) (λ image. agg_rules_in image ≡ Ok agg)
  pub does : Does d b rules agg command streams disks answer

-- A run of a command: its words find no memory; or it has no rules; or the command is done. Until it has its rules it touches no net.
abbrev pub Outcome : {D E L : Type 0} → Ghosts D → Beside E L → Command → D → D → Streams → List D → Answer D → Type 0
Outcome d b command folder folder' streams disks answer =
    ((b.net' ≡ b.net) × NoWords streams disks answer)
    ⊎ (((b.net' ≡ b.net) × NoRules d command folder folder' streams disks answer)
    ⊎ HasRules d b command folder streams disks answer)
