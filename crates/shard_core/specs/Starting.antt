-- What a start notes of the files of a disk, name by name.
use Rattle.std.specs.Prelude.{◌≡◌, ◌≢◌, ◌<◌, ◌==◌, ℕ, true, false, List, Option, Some, None, Err, IfSome, IsSomeAnd, option_map, slice_get, string_bytes}
use Rattle.carbon_model.specs.State.{form_of}
use Rattle.std.specs.Ordering.{nat_cmp, is_le}
use Rattle.std.specs.Cmp.Lexicographic.{slice_cmp}
use Rattle.outside_io.specs.Image.{Image}
use Rattle.metric_path.specs.FileName.{file_name_of}
use Rattle.ring_format.specs.Cell.{IsVersion}
use Rattle.ring_format.specs.declared.fault.HeadFault.TheVariants as faults
use Rattle.metric_index.specs.Index.{Sets}
use Rattle.metric_table.specs.Table.{undrained}
use Rattle.carbon_model.specs.RingFiles.{IsOfClass, head_of, is_sound, kept_on}
use Rattle.shard_core.specs.Shard.{HasFiles, IsLawfulRing}
use Rattle.shard_core.specs.Table.{Table, kept_form}
use Rattle.shard_core.specs.Opened.{IsDamaged}
use Rattle.shard_core.specs.declared.fault.StartFault.{StartFault}
use Rattle.shard_core.specs.declared.fault.StartFault.TheVariants.{Damaged, DiskFault, NoMemory}
use Rattle.shard_core.specs.declared.starting.FileHead.{FileHead}
use Rattle.shard_core.specs.declared.starting.FileHead.TheVariants as heads

-- what the head of a file says; a file that is not there counts as one with a head of zero
abbrev pub TellsHead : Option (List ℕ) → FileHead → Type 0
TellsHead held (heads.Ring layout version) =
    IsVersion version × IsSomeAnd held (IsLawfulRing version layout)
TellsHead held heads.Zero = IfSome held (λ file. head_of file ≡ Err faults.Zero)
TellsHead held heads.Faulty = IsSomeAnd held (λ file. is_sound file ≡ false)

-- a head with a fault
abbrev pub IsFaulty : FileHead → Type 0
IsFaulty (heads.Ring layout version) = ⊥
IsFaulty heads.Zero = ⊥
IsFaulty heads.Faulty = Unit {0}

-- the metric of a ring file is kept in its layout and its version
abbrev pub NotesHead : List ℕ → FileHead → Table → Table → Type 0
NotesHead path (heads.Ring layout version) old new =
    Sets old new path (Some (undrained layout true (version == 1)))
NotesHead path heads.Zero old new = new ≡ old
NotesHead path heads.Faulty old new = ⊥

-- the table have of a path what is kept on the disk, where its file is not damaged
abbrev pub IsNoted : Image → Table → List ℕ → Type 0
IsNoted image table path =
    (kept_form table path ≡ option_map form_of (kept_on image path))
    × IfSome (image (file_name_of path)) (λ file. is_sound file ≡ true)

-- the table after one name: the path of the class that has this file name is noted, and every other
-- path has what it had
pub record Notes (class : ℕ) (image : Image) (name : List ℕ) (old new : Table) : Type 0 where
  pub files : HasFiles class new None (Some image)
  pub here : (path : List ℕ) → IsOfClass class path → file_name_of path ≡ name → IsNoted image new path
  pub same : (path : List ℕ) → IsOfClass class path → file_name_of path ≢ name
      → kept_form new path ≡ kept_form old path

-- the table after so many names
pub record Noted (class : ℕ) (image : Image) (names : List (List ℕ)) (count : ℕ) (table : Table) : Type 0 where
  pub files : HasFiles class table None (Some image)
  pub named : (k : ℕ) → k < count → (path : List ℕ) → IsOfClass class path → slice_get names k ≡ Some (file_name_of path) → IsNoted image table path

-- the name is that of a damaged file of the class
pub record IsDamagedName (class : ℕ) (image : Image) (name : List ℕ) : Type 0 where
  pub path : List ℕ
  pub one : IsOfClass class path
  pub named : file_name_of path ≡ name
  pub damaged : IsDamaged image path

-- and no name of a damaged file among these is less
pub record FirstAmong (class : ℕ) (image : Image) (names : List (List ℕ)) (name : List ℕ) : Type 0 where
  pub here : IsDamagedName class image name
  pub first : (k : ℕ) (other : List ℕ) → IsOfClass class other → IsDamaged image other → slice_get names k ≡ Some (file_name_of other)
      → is_le (slice_cmp nat_cmp name (file_name_of other)) ≡ true

-- a fact on the name that a fault tells
abbrev pub OnDamaged : StartFault → (List ℕ → Type 0) → Type 0
OnDamaged (Damaged name) P = P (string_bytes name)
OnDamaged DiskFault P = Unit {0}
OnDamaged NoMemory P = Unit {0}
