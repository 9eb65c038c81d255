-- A fact on the file under a patch, told by a later patch and disk.
use Rattle.std.proofs.Common.{◌≡◌, ℕ, Bool, List, subst}
use Rattle.std.specs.Prelude.{Option}
use Rattle.outside_io.specs.Image.{Image}
use Rattle.ring_archive.specs.Ring.{UnderPatch}

pub under_moved : (fresh later : Bool) (known told : Option Image) (name : List ℕ) (P : List ℕ → Type 0) → later ≡ fresh → told ≡ known → UnderPatch later told name P → UnderPatch fresh known name P
under_moved fresh later known told name P same kept h =
    subst (λ (known : Option Image). UnderPatch fresh known name P) kept (subst (λ (fresh : Bool). UnderPatch fresh told name P) same h)
