-- A start over an image of which it is known what it starts as.
use Rattle.std.proofs.Common.{◌≡◌, ℕ, Bool, List, Option, Some, subst}
use Rattle.std.specs.Prelude.{string_bytes}
use Rattle.outside_io.specs.Image.{Image, WhereKnown}
use Rattle.outside_io.specs.declared.disk.Disk.{Ghosts}
use Rattle.carbon_model.specs.RingFiles.{IsOfClass, SameKept, Settings, kept_on}
use Rattle.carbon_model.specs.State.{Kept}
use Rattle.shard_core.specs.Opened.{IsOpening}
use Rattle.shard_core.specs.StartFaults.{IsDamagedFile, NotStarted}
use Rattle.shard_core.specs.Started.{StartedFrom}
use Rattle.shard_core.specs.Starting.{OnDamaged}
use Rattle.shard_core.specs.declared.fault.StartFault.{StartFault}
use Rattle.shard_core.specs.declared.fault.StartFault.TheVariants.{Damaged, DiskFault, NoMemory}
use Rattle.shard_core.specs.declared.shard.Shard.{Shard}
use Rattle.crash_law.specs.StartsAs.{StartsAs}

opening_at : (a b : Option Image) (left opened : Image) → a ≡ Some left → b ≡ Some opened → WhereKnown a b IsOpening → IsOpening left opened
opening_at a b left opened is is' opening =
    subst (λ (o : Option Image). WhereKnown (Some left) o IsOpening) is' (subst (λ (o : Option Image). WhereKnown o b IsOpening) is opening)

pub started_keeps : {D : Type 0} {d : Ghosts D} (class : ℕ) (settings : Settings) (redo : Bool) (told left opened : Image) (kept : List ℕ → Option Kept) (disk : D) (shard : Shard D d) → d.image disk ≡ Some left → StartsAs class told kept left
    → StartedFrom class settings redo disk shard → d.image shard.files.disk ≡ Some opened → (path : List ℕ) → IsOfClass class path → SameKept (kept_on opened path) (kept path)
started_keeps {D} {d} class settings redo told left opened kept disk shard is starts started is' path one =
    (starts.opens opened (opening_at (d.image disk) (d.image shard.files.disk) left opened is is' started.opening)).rings path one

none_told : (class : ℕ) (told left : Image) (kept : List ℕ → Option Kept) (fault : StartFault) → StartsAs class told kept left → IsDamagedFile fault (Some left) class → OnDamaged fault (λ name. ⊥)
none_told class told left kept (Damaged name) starts damaged = starts.sound (string_bytes name) damaged
none_told class told left kept DiskFault starts damaged = tt
none_told class told left kept NoMemory starts damaged = tt

pub none_damaged : {D : Type 0} (d : Ghosts D) (class : ℕ) (told left : Image) (kept : List ℕ → Option Kept) (disk back : D) (fault : StartFault) → d.image disk ≡ Some left → StartsAs class told kept left → NotStarted d class disk back fault
    → OnDamaged fault (λ name. ⊥)
none_damaged d class told left kept disk back fault is starts refused =
    none_told class told left kept fault starts (subst (λ (o : Option Image). IsDamagedFile fault o class) is refused.damaged)
