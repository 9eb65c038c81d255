-- The headline over a run of `serve`.
use Rattle.std.specs.Prelude.{◌≡◌, ◌⊎◌, ℕ, List, Option, Ok, IfSome}
use Rattle.outside_io.specs.Image.{Image, WhereKnown}
use Rattle.outside_io.specs.declared.disk.Disk.{Ghosts}
use Rattle.carbon_history.specs.declared.entry.Entry.{Entry}
use Rattle.carbon_model.specs.State.{State}
use Rattle.carbon_model.specs.RingFiles.{Opens}
use Rattle.shard_core.specs.Opened.{IsOpening}
use Rattle.shard_set.specs.Disks.{told_of}
use Rattle.shard_set.specs.Opening.{AreSound}
use Rattle.schema_rules.specs.RulesOf.{RulesValue}
use Rattle.aggregate_rules.specs.RuleTexts.{RuleValue}
use Rattle.carbon_serve.specs.Headline.{IsOneHistory}
use Rattle.carbon_words.specs.declared.command.Command.TheVariants.{Serve}
use Rattle.carbon_words.specs.declared.command.Options.{Options}
use Rattle.carbon_words.specs.declared.command.ServeOptions.{ServeOptions}
use Rattle.carbon_run.specs.Conf.{agg_rules_in, rules_in}
use Rattle.carbon_run.specs.Commands.{Beside, settings_by, staff_by}
use Rattle.carbon_run.specs.Runs.{Answer, NoRules, NoStart, NoWords, Streams}
use Rattle.carbon_run.specs.Serves.{NoPort, NoStore}

-- By the rules in the folder a server went on from a state in which a run may begin over the disks that were given, what an open gate held laid on them,
-- none of which then has a damaged file. All that was put, drained and asked is one history: what its links brought and were told is of that.
pub record HasOneHistory {D E L : Type 0} (d : Ghosts D) (b : Beside E L) (said : Options) (more : ServeOptions) (folder : D) (given : List D) (history : List Entry) : Type 0 where
  pub rules : RulesValue
  pub read : IfSome (d.image folder) (λ image. rules_in image ≡ Ok rules)
  pub agg : List RuleValue
  pub gathers : IfSome (d.image folder) (λ image. agg_rules_in image ≡ Ok agg)
  pub told : ℕ → Option Image
  pub opening : (k : ℕ) → WhereKnown (told_of d.image given k) (told k) IsOpening
  pub sound : AreSound told 16
  pub start : State
  pub opens : Opens (settings_by rules said) told start
  pub one : IsOneHistory (staff_by b agg more) told start history

-- The ends of a run of `serve` that leave no history: its words found no memory; it had no rules; a shard did not start; there was no port; or no memory
-- behind the ports.
abbrev pub EndsUnserved : {D E L : Type 0} → Ghosts D → Beside E L → Options → ServeOptions → D → D → Streams → List D → Answer D → Type 0
EndsUnserved d b said more folder folder' streams given answer =
    NoWords streams given answer
    ⊎ (NoRules d (Serve said more) folder folder' streams given answer
    ⊎ (NoStart d streams given answer
    ⊎ (NoPort d b.faults b.net b.net' streams given answer ⊎ NoStore d streams given answer)))

-- it ended so, or there is one history
abbrev pub TellsOneHistory : {D E L : Type 0} → Ghosts D → Beside E L → Options → ServeOptions → D → D → Streams → List D → Answer D → Type 0
TellsOneHistory d b said more folder folder' streams given answer =
    EndsUnserved d b said more folder folder' streams given answer ⊎ HasOneHistory d b said more folder given answer.history
