-- What a step of a drain makes of a shard.
use Rattle.std.specs.Prelude.{◌≡◌, ◌<◌, Option, None, Some, IfSome, IsSome}
use Rattle.outside_io.specs.Image.{WhereKnown}
use Rattle.metric_path.specs.FileName.{file_name_of}
use Rattle.ring_writer.specs.PartWritten.{RunTorn, RunWritten}
use Rattle.write_shelf.specs.Shelf.{marked}
use Rattle.redo_log.specs.Ends.{RedoEnds}
use Rattle.redo_log.specs.Steps.{RedoValue}
use Rattle.shard_core.specs.Shard.{Inside, patch_on}
use Rattle.shard_core.specs.Work.{drain_of, step_of}
use Rattle.shard_core.specs.declared.planned.Wrote.{Wrote}
use Rattle.shard_core.specs.declared.planned.Wrote.TheVariants.{Run, Finished, Nothing, DiskFault}

-- straight to the file: the next run, this and no other, is written to the file of its patch, and is
-- marked
pub record WritesRun (old new : Inside) : Type 0 where
  pub some : IsSome old.shelf
  pub marked : new.shelf ≡ marked old.shelf
  pub written : WhereKnown old.known new.known (λ before after. IfSome old.shelf (λ drain.
      RunWritten drain (file_name_of drain.patch.path) before after))

-- it was to be written: any bytes stand where its were to stand, no other byte and no other file
-- changed, and it comes again
pub record FailsRun (old new : Inside) : Type 0 where
  pub some : IsSome old.shelf
  pub same : new.shelf ≡ old.shelf
  pub torn : WhereKnown old.known new.known (λ before after. IfSome old.shelf (λ drain.
      RunTorn drain (file_name_of drain.patch.path) before after))

-- through the log: the next step, this and no other, ended so
pub record StepsOn (end : Wrote) (before : Option RedoValue) (old new : Inside) : Type 0 where
  pub behind : Option RedoValue
  pub log : new.log ≡ Some behind
  pub shelf : new.shelf ≡ drain_of behind
  pub ends : RedoEnds (step_of end) before behind old.known new.known

-- a step was taken, either way
abbrev pub TakesStep : Wrote → Option (Option RedoValue) → Inside → Inside → Type 0
TakesStep end None old new = WritesRun old new × (new.log ≡ None)
TakesStep end (Some before) old new = StepsOn end before old new

-- or it was not
abbrev pub FailsStep : Option (Option RedoValue) → Inside → Inside → Type 0
FailsStep None old new = FailsRun old new × (new.log ≡ None)
FailsStep (Some before) old new = StepsOn DiskFault before old new

-- a step was taken, fewer are left, and the patch is the same as long as some are
pub record WritesStep (end : Wrote) (old new : Inside) : Type 0 where
  pub some : IsSome old.shelf
  pub fewer : new.steps < old.steps
  pub patch : IfSome new.shelf (λ drain. patch_on old.shelf ≡ Some drain.patch)
  pub takes : TakesStep end old.log old new

-- the disk failed: all is left as it was but the disk
pub record FailsAgain (old new : Inside) : Type 0 where
  pub some : IsSome old.shelf
  pub shelf : new.shelf ≡ old.shelf
  pub steps : new.steps ≡ old.steps
  pub fails : FailsStep old.log old new

-- each answer, exactly where it comes
abbrev pub WritesTo : Wrote → Inside → Inside → Type 0
WritesTo Run old new = WritesStep Run old new × IsSome new.shelf
WritesTo Finished old new = WritesStep Finished old new × (new.shelf ≡ None)
WritesTo Nothing old new = (old.shelf ≡ None) × (new ≡ old)
WritesTo DiskFault old new = FailsAgain old new

-- nothing changed but the drain that is being written and the disk
pub record OnlyWrites (old new : Inside) : Type 0 where
  pub class : new.class ≡ old.class
  pub rules : new.rules ≡ old.rules
  pub cache : new.cache ≡ old.cache
  pub picker : new.picker ≡ old.picker
  pub table : new.table ≡ old.table
