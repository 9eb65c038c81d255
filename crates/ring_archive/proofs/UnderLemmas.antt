-- Facts on the file under a patch.
use Rattle.std.proofs.Common.{◌≡◌, ℕ, Bool, true, false, List, [], refl, arith}
use Rattle.std.specs.Prelude.{Option, Some, None, IsSomeAnd, Result, Ok, Err, OnOk}
use Rattle.outside_io.specs.Image.{Image}
use Rattle.ring_format.specs.declared.archive.Archive.{Archive}
use Rattle.ring_format.specs.Layout.{LayoutValue}
use Rattle.ring_format.specs.Cell.{IsVersion}
use Rattle.ring_format.proofs.WrittenHeads.{version_is}
use Rattle.ring_archive.specs.Ring.{HasRoom, HoldsRing, IsRingFileIn, OnFile, UnderPatch}

held_all : {X : Type 0} (held : Option X) (P Q : X → Type 0) → IsSomeAnd held P → ((x : X) → Q x) → IsSomeAnd held Q
held_all None P Q h q = absurd h
held_all (Some x) P Q h q = q x

held_both : {X : Type 0} (held : Option X) (P Q R : X → Type 0) → IsSomeAnd held P → IsSomeAnd held Q → ((x : X) → P x → Q x → R x) → IsSomeAnd held R
held_both None P Q R p q r = absurd p
held_both (Some x) P Q R p q r = r x p q

-- what holds of every file holds of the one under the patch
pub under_all : (fresh : Bool) (known : Option Image) (name : List ℕ) (version : ℕ) (archives : List Archive) (Q : List ℕ → Type 0) → HoldsRing fresh known name version archives → ((file : List ℕ) → Q file) → UnderPatch fresh known name Q
under_all true known name version archives Q h q = q []
under_all false None name version archives Q h q = tt
under_all false (Some image) name version archives Q h q = held_all (image name) _ Q h q

-- what follows from two facts on a file
pub under_both : (fresh : Bool) (known : Option Image) (name : List ℕ) (P Q R : List ℕ → Type 0) → UnderPatch fresh known name P → UnderPatch fresh known name Q → ((file : List ℕ) → P file → Q file → R file)
    → UnderPatch fresh known name R
under_both true known name P Q R p q r = r [] p q
under_both false None name P Q R p q r = tt
under_both false (Some image) name P Q R p q r = held_both (image name) P Q R p q r

-- what follows from a fact on a file
pub under_map : (fresh : Bool) (known : Option Image) (name : List ℕ) (P Q : List ℕ → Type 0) → UnderPatch fresh known name P → ((file : List ℕ) → P file → Q file) → UnderPatch fresh known name Q
under_map fresh known name P Q p q = under_both fresh known name P P Q p p (λ file here _. q file here)

-- what follows from three facts on a file
pub under_three : (fresh : Bool) (known : Option Image) (name : List ℕ) (P Q R S : List ℕ → Type 0) → UnderPatch fresh known name P → UnderPatch fresh known name Q → UnderPatch fresh known name R
    → ((file : List ℕ) → P file → Q file → R file → S file) → UnderPatch fresh known name S
under_three fresh known name P Q R S p q r more =
    under_both fresh known name (λ file. P file × Q file) R S (under_both fresh known name P Q (λ file. P file × Q file) p q (λ file here there. (here, there))) r
    (λ file both last. more file both.0 both.1 last)

-- what follows from a fact at success
pub ok_more : {X Y : Type 0} (result : Result X Y) (P Q : Type 0) → OnOk result P → (P → Q) → OnOk result Q
ok_more (Ok x) P Q p more = more p
ok_more (Err y) P Q p more = tt

held_map : {X : Type 0} (held : Option X) (P Q : X → Type 0) → IsSomeAnd held P → ((x : X) → P x → Q x) → IsSomeAnd held Q
held_map None P Q p q = absurd p
held_map (Some x) P Q p q = q x p

-- what follows from a fact on the file of a name
pub on_file_map : (known : Option Image) (name : List ℕ) (P Q : List ℕ → Type 0) → OnFile known name P → ((file : List ℕ) → P file → Q file) → OnFile known name Q
on_file_map None name P Q p q = tt
on_file_map (Some image) name P Q p q = held_map (image name) P Q p q

-- a ring file has room for its layout
pub ring_file_holds : (known : Option Image) (name : List ℕ) (version : ℕ) (layout : LayoutValue) → IsVersion version → OnFile known name (IsRingFileIn version layout) → HoldsRing false known name version layout.archives
ring_file_holds known name version layout one whole =
    on_file_map known name (IsRingFileIn version layout) (HasRoom version layout.archives) whole (λ file is. (version_is version layout file one is.0, omega (arith, is.1)))

-- the same where the file may be yet to be created
pub ring_holds : (fresh : Bool) (known : Option Image) (name : List ℕ) (version : ℕ) (layout : LayoutValue) → IsVersion version → (fresh ≡ false → OnFile known name (IsRingFileIn version layout)) → HoldsRing fresh known name version layout.archives
ring_holds true known name version layout one whole = tt
ring_holds false known name version layout one whole = ring_file_holds known name version layout one (whole refl)
