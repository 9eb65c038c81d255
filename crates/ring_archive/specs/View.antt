-- The file of a view under a patch, where the disk tells it.
use Rattle.std.specs.Prelude.{◌≡◌, ◌<◌, ℕ, Bool, List, Option, length}
use Rattle.outside_io.specs.Image.{Image}
use Rattle.ring_format.specs.Cell.{IsVersion}
use Rattle.ring_format.specs.Patch.{PatchValue}
use Rattle.ring_archive.specs.Ring.{HoldsRing, UnderPatch, base_of}
use Rattle.ring_archive.specs.declared.view.RingView.{RingView}

-- the view is of a version, and its file stands on the disk with room for its layout in that version, unless it is yet to be created
abbrev pub IsThere : RingView → Bool → Option Image → Type 0
IsThere view fresh known = IsVersion view.version × HoldsRing fresh known view.name.now view.version view.layout.archives

-- a fact on the bytes of the file, which has none where it is yet to be created
abbrev pub OnRing : RingView → Bool → Option Image → (List ℕ → Type 0) → Type 0
OnRing view fresh known P = UnderPatch fresh known view.name.now P

-- an archive of the layout, and the base that it has in the file under the patch
pub record IsBased (view : RingView) (patch : PatchValue) (known : Option Image) (archive base : ℕ) : Type 0 where
  pub there : archive < length view.layout.archives
  pub first : OnRing view patch.fresh known (λ file. base ≡ base_of patch file archive)
