-- From what a run of `serve` comes to, to the headline.
use Rattle.std.proofs.Common.{inl, inr, List}
use Rattle.outside_io.specs.declared.disk.Disk.{Ghosts}
use Rattle.shard_set.specs.Disks.{disk_faults}
use Rattle.carbon_words.specs.declared.command.Command.TheVariants.{Serve}
use Rattle.carbon_words.specs.declared.command.Options.{Options}
use Rattle.carbon_words.specs.declared.command.ServeOptions.{ServeOptions}
use Rattle.carbon_run.specs.Commands.{Beside, HasRules, Outcome, settings_by, staff_by}
use Rattle.carbon_run.specs.Headline.{TellsOneHistory}
use Rattle.carbon_run.specs.Runs.{Answer, Streams}
use Rattle.carbon_run.specs.Serves.{ServeRuns}
use Rattle.carbon_serve.proofs.HeadlineLemmas.{one_history}

module _ {D E L : Type 0} (d : Ghosts D) (b : Beside E L) (said : Options) (more : ServeOptions) (folder folder' : D) (streams : Streams) (given : List D) (answer : Answer D) where
  serves : (has : HasRules d b (Serve said more) folder streams given answer)
      → ServeRuns d b.faults b.net b.net' (settings_by has.rules said) said.redo (staff_by b has.agg more) streams given answer
      → TellsOneHistory d b said more folder folder' streams given answer
  serves has (inl none) = inl (inr (inr (inl none.1)))
  serves has (inr (inl none)) = inl (inr (inr (inr (inl none))))
  serves has (inr (inr (inl none))) = inl (inr (inr (inr (inr none))))
  serves has (inr (inr (inr served))) = inr (record {
    rules = has.rules;
    read = has.read;
    agg = has.agg;
    gathers = has.gathers tt;
    told = served.told;
    opening = served.opening;
    sound = served.sound;
    start = served.start;
    opens = served.opens;
    one = one_history d (staff_by b has.agg more) served.told served.start (disk_faults d.faults given) served.serves.reason answer.history answer.disks served.serves.serves;
  })

  pub headline : Outcome d b (Serve said more) folder folder' streams given answer → TellsOneHistory d b said more folder folder' streams given answer
  headline (inl none) = inl (inl none.1)
  headline (inr (inl none)) = inl (inr (inl none.1))
  headline (inr (inr has)) = serves has has.does
