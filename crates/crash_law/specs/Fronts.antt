-- Fronts of the entries of a class.
use Rattle.std.specs.Prelude.{◌≡◌, ℕ, ◌+◌, ◌≤◌, true, List, ◌++◌, Option, None, Some}
use Rattle.outside_io.specs.Image.{Image}
use Rattle.outside_io.specs.declared.disk.Disk.{Ghosts}
use Rattle.write_shelf.specs.Shelf.{DrainValue}
use Rattle.carbon_history.specs.Entries.{drains}
use Rattle.carbon_history.specs.declared.entry.Entry.{Entry}
use Rattle.carbon_model.specs.Replay.{replay}
use Rattle.carbon_model.specs.RingFiles.{Opens, Settings}
use Rattle.carbon_model.specs.State.{State}
use Rattle.shard_core.specs.Started.{StartedFrom}
use Rattle.shard_core.specs.declared.shard.Shard.{Shard}
use Rattle.crash_law.specs.StartsAs.{StartsAs}

-- how many drains were begun and are not settled: the one that is being written
abbrev pub unsettled : Option DrainValue → ℕ
unsettled None = 0
unsettled (Some drain) = 1

-- The image starts as the replay of a front of the entries; and the front holds each drain among the earlier ones that was settled,
-- when this one was being written. Of these the last one alone may be unsettled, since none begins before the one before it is settled.
pub record StartsAsFront (class : ℕ) (told : Image) (s : State) (earlier entries : List Entry) (shelf : Option DrainValue)
    (left : Image) : Type 0 where
  pub front : List Entry
  pub rest : List Entry
  pub is : entries ≡ front ++ rest
  pub settled : drains earlier ≤ drains front + unsettled shelf
  pub starts : StartsAs class told (replay s front).kept left

-- A shard started with its drains through the log, in a state in which a run may begin, whatever a crash of its disk might have left
-- before. This is what its disk told at the opening.
pub record StartsLogged {D : Type 0} {d : Ghosts D} (class : ℕ) (settings : Settings) (told : ℕ → Option Image) (opening : Image)
    (s : State) (disk : D) (start : Shard D d) : Type 0 where
  pub started : StartedFrom class settings true disk start
  pub opens : Opens settings told s
  pub told_here : told class ≡ Some opening
  pub known : d.image start.files.disk ≡ Some opening
