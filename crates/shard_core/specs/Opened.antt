-- What a shard finds when it starts.
use Rattle.std.specs.Prelude.{◌≡◌, ◌⊎◌, ℕ, Bool, true, false, List, Option, None, IfSome, IsSomeAnd}
use Rattle.std.specs.Ordering.{nat_cmp, is_le}
use Rattle.std.specs.Cmp.Lexicographic.{slice_cmp}
use Rattle.outside_io.specs.Image.{Image}
use Rattle.metric_path.specs.Class.{class_of}
use Rattle.metric_path.specs.FileName.{file_name_of}
use Rattle.carbon_model.specs.State.{Kept}
use Rattle.carbon_model.specs.RingFiles.{IsOfClass, is_sound, kept_on}
use Rattle.redo_log.specs.Arm.{LeavesNothing, MakesNothing, has_byte}
use Rattle.redo_log.specs.Recovery.{IsDamaged as IsDamagedLog, OpensAs, Recovers}
use Rattle.redo_log.specs.Rows.{KeepsRings}
use Rattle.redo_log.specs.Steps.{gate_name, log_name}
use Rattle.metric_index.specs.Index.{entry_of}
use Rattle.shard_core.specs.Shard.{HoldsKept}
use Rattle.shard_core.specs.Table.{Table}

-- The image at the opening, by the one that the disk had: where its gate is open the patch of the log is laid over its rings, and else it
-- has these rings.
pub record IsOpening (image opening : Image) : Type 0 where
  pub laid : Image
  pub recovers : Recovers image laid
  pub rings : KeepsRings laid opening

-- What is written before the opening besides what is laid: nothing where drains do not go through the log, nor where there is a gate, and
-- else the log of nothing and a closed gate.
pub record MakesLog (is_logged : Bool) (image opening : Image) : Type 0 where
  pub bare : is_logged ≡ false → Recovers image opening
  pub kept : has_byte (image gate_name) ≡ true → Recovers image opening
  pub made : is_logged ≡ true → MakesNothing image opening

-- an image that opens as another does: it is the same, or its patch is laid or can still be laid; or, behind that, the log was being made
abbrev pub StillOpens : Image → Image → Type 0
StillOpens image now = OpensAs image now ⊎ ((laid : Image) × (Recovers image laid × LeavesNothing laid now))

-- the file of a path of the class is damaged
abbrev pub IsDamaged : Image → List ℕ → Type 0
IsDamaged image path = IsSomeAnd (image (file_name_of path)) (λ file. is_sound file ≡ false)

-- the first damaged file, in byte order of its name
pub record FirstDamaged (class : ℕ) (image : Image) (name : List ℕ) : Type 0 where
  pub path : List ℕ
  pub one : IsOfClass class path
  pub named : file_name_of path ≡ name
  pub damaged : IsDamaged image path
  pub first : (other : List ℕ) → IsOfClass class other → IsDamaged image other → is_le (slice_cmp nat_cmp name (file_name_of other)) ≡ true

-- the log is damaged, which is told first, or the first damaged file is that of the opening
abbrev pub IsDamagedBy : ℕ → Image → List ℕ → Type 0
IsDamagedBy class image name =
    ((name ≡ log_name) × IsDamagedLog image) ⊎ ((laid : Image) × (Recovers image laid × FirstDamaged class laid name))

-- no file of the class is damaged
abbrev pub IsSoundDisk : ℕ → Image → Type 0
IsSoundDisk class image = (path : List ℕ) → IsOfClass class path → IfSome (image (file_name_of path)) (λ file. is_sound file ≡ true)

-- The table and the disk stand for something that is kept, which is what the disk shows, where it
-- tells its image.
pub record Opens (class : ℕ) (told : Option Image) (table : Table) : Type 0 where
  pub kept : List ℕ → Option Kept
  pub shown : IfSome told (λ image. (path : List ℕ) → IsOfClass class path → kept path ≡ kept_on image path)
  pub holds : HoldsKept told class table None told kept

-- each known metric is of the class, is kept, and was not drained
abbrev pub IsOpened : ℕ → Table → Type 0
IsOpened class table =
    (path : List ℕ) → IfSome (entry_of table path) (λ known. (class_of path ≡ class) × ((known.is_kept ≡ true) × (known.drains ≡ 0)))
