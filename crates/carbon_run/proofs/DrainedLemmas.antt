-- Disks that are drained have no drain on its way.
use Rattle.std.proofs.Common.{◌≡◌, ℕ, false, List, Option, None, Some, IfSome, subst}
use Rattle.std.specs.Prelude.{slice_get}
use Rattle.outside_io.specs.Image.{Image, WhereKnown}
use Rattle.outside_io.specs.declared.disk.Disk.{Ghosts}
use Rattle.redo_log.specs.Recovery.{is_open}
use Rattle.redo_log.specs.Steps.{gate_name}
use Rattle.carbon_model.specs.State.{Kept, State}
use Rattle.carbon_model.specs.RingFiles.{Stands, StandsUnder}
use Rattle.carbon_run.specs.Runs.{IsDrained}

-- what stands stands under nothing
under_none : (opening left : Image) (kept : List ℕ → Option Kept) (class : ℕ) → Stands opening left kept class → StandsUnder opening left None kept class
under_none opening left kept class stands = record {
  rings = stands.rings;
  sound = λ path one apart. stands.sound path one;
  patched = tt;
  others = stands.others;
}

pub none_on_its_way : {D : Type 0} (d : Ghosts D) (told : ℕ → Option Image) (disks : List D) (s : State) (class : ℕ) (disk : D) (opening left : Image)
    → IsDrained d.image told disks s → slice_get disks class ≡ Some disk → told class ≡ Some opening → d.image disk ≡ Some left
    → StandsUnder opening left None s.kept class × (is_open (left gate_name) ≡ false)
none_on_its_way {D} d told disks s class disk opening left drained at known now =
    let there : WhereKnown (told class) (d.image disk) (λ opening now. Stands opening now s.kept class) =
    subst (λ (o : Option D). IfSome o (λ disk. WhereKnown (told class) (d.image disk) (λ opening now. Stands opening now s.kept class))) at (drained.stand class) in
    let here : WhereKnown (Some opening) (d.image disk) (λ opening now. Stands opening now s.kept class) =
    subst (λ (o : Option Image). WhereKnown o (d.image disk) (λ opening now. Stands opening now s.kept class)) known there in
    let stands : Stands opening left s.kept class =
    subst (λ (o : Option Image). WhereKnown (Some opening) o (λ opening now. Stands opening now s.kept class)) now here in
    let gate : IfSome (d.image disk) (λ image. is_open (image gate_name) ≡ false) =
    subst (λ (o : Option D). IfSome o (λ disk. IfSome (d.image disk) (λ image. is_open (image gate_name) ≡ false))) at (drained.shut class) in
    let shut : is_open (left gate_name) ≡ false = subst (λ (o : Option Image). IfSome o (λ image. is_open (image gate_name) ≡ false)) now gate in
    (under_none opening left s.kept class stands, shut)
