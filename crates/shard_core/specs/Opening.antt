-- What the opening of a disk makes of it.
use Rattle.std.specs.Prelude.{◌≡◌, ℕ, Bool, Option, None, IfSome}
use Rattle.outside_io.specs.Image.{Image, WhereKnown}
use Rattle.redo_log.specs.Recovery.{IsDamaged as IsDamagedLog, OpensAs}
use Rattle.redo_log.specs.Steps.{log_name}
use Rattle.shard_core.specs.Opened.{IsOpening, MakesLog, Opens, StillOpens}
use Rattle.shard_core.specs.Shard.{HasFiles}
use Rattle.shard_core.specs.StartFaults.{IsDamagedFile}
use Rattle.shard_core.specs.Starting.{OnDamaged}
use Rattle.shard_core.specs.Table.{Table}
use Rattle.shard_core.specs.Work.{HoldsLog, no_work}
use Rattle.shard_core.specs.declared.fault.StartFault.{StartFault}

-- the table is that of the opening, and the log may be written where drains go through it
pub record OpensDisk (class : ℕ) (is_logged : Bool) (a b : Option Image) (table : Table) : Type 0 where
  pub opening : WhereKnown a b IsOpening
  pub makes : WhereKnown a b (MakesLog is_logged)
  pub opens : Opens class b table
  pub files : HasFiles class table None b
  pub log : HoldsLog (no_work is_logged).log b

-- it still opens as it did, and what is told as damaged is
pub record RefusesDisk (fault : StartFault) (class : ℕ) (a b : Option Image) : Type 0 where
  pub opens : WhereKnown a b StillOpens
  pub damaged : IsDamagedFile fault a class

-- the same of the log alone
pub record IsLogRefused (fault : StartFault) (a b : Option Image) : Type 0 where
  pub opens : WhereKnown a b OpensAs
  pub damaged : OnDamaged fault (λ name. (name ≡ log_name) × IfSome a IsDamagedLog)
