-- What contracts see of a shard.
use Rattle.std.specs.Prelude.{◌≡◌, Option}
use Rattle.outside_io.specs.Image.{Image}
use Rattle.outside_io.specs.declared.disk.Disk.{Ghosts}
use Rattle.carbon_model.specs.State.{State}
use Rattle.shard_core.specs.Halves.{held_by}
use Rattle.shard_core.specs.Shard.{Holds, Inside}
use Rattle.shard_core.specs.declared.shard.Shard.{Shard}

-- what a shard holds
abbrev pub inside_of : {D : Type 0} {d : Ghosts D} → Shard D d → Inside
inside_of shard = held_by shard.desk shard.files

-- the shard, whose disk told this image at the opening, stands for its class's part of a state
abbrev pub StandsFor : {D : Type 0} {d : Ghosts D} → Option Image → Shard D d → State → Type 0
StandsFor told shard s = Holds told (inside_of shard) s

-- the class and the rules of a shard never change
pub record SameShard {D : Type 0} {d : Ghosts D} (old new : Shard D d) : Type 0 where
  pub class : new.desk.class ≡ old.desk.class
  pub rules : new.desk.rules ≡ old.desk.rules

-- nothing changed but the pending points and which metrics are known
pub record OnlyPuts {D : Type 0} {d : Ghosts D} (old new : Shard D d) : Type 0 where
  pub class : new.desk.class ≡ old.desk.class
  pub rules : new.desk.rules ≡ old.desk.rules
  pub picker : new.desk.picker ≡ old.desk.picker
  pub work : new.files.work ≡ old.files.work
  pub disk : new.files.disk ≡ old.files.disk
