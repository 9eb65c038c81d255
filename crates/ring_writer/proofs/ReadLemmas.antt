-- A file that holds in each slot what it means under a patch reads alone as under the patch.
use Rattle.std.proofs.Common.{◌≡◌, ◌∙◌, ℕ, true, List, None, refl, ap}
use Rattle.std.specs.Prelude.{slice_get}
use Rattle.std.specs.BTreeMap.{is_at}
use Rattle.std.specs.FinMap.{nat_cmp-IsAntisymmetric}
use Rattle.std.specs.Ordering.{nat_cmp, is_eq, ordering_then}
use Rattle.std.specs.declared.cmp.Ordering.{Ordering}
use Rattle.std.specs.declared.cmp.Ordering.TheVariants.{Less, Equal, Greater}
use Rattle.ring_format.specs.Layout.{layout_fault}
use Rattle.ring_format.specs.Patch.{IsPlace, PatchValue, place_cmp}
use Rattle.ring_archive.specs.Ring.{ReadsAs, Rings, bare, ring_cell, stored_cell, value_of}
use Rattle.ring_archive.proofs.AlikeLemmas.{archive_alike}

tied_then : (o p : Ordering) → is_eq (ordering_then o p) ≡ true → (o ≡ Equal) × (p ≡ Equal)
tied_then Less p e = absurd cc
tied_then Equal Less e = absurd cc
tied_then Equal Equal e = (refl, refl)
tied_then Equal Greater e = absurd cc
tied_then Greater p e = absurd cc

pub same_place : (place other : ℕ × ℕ) → is_at (place_cmp place) other ≡ true → place ≡ other
same_place place other at =
    let both = tied_then (nat_cmp place.0 other.0) (nat_cmp place.1 other.1) at in
    ap (λ (i : ℕ). (i, place.1)) (nat_cmp-IsAntisymmetric place.0 other.0 both.0) ∙ ap (λ (slot : ℕ). (other.0, slot)) (nat_cmp-IsAntisymmetric place.1 other.1 both.1)

-- the new file alone reads as the old one under the patch
pub reads_same : (patch : PatchValue) (old new : List ℕ) → layout_fault patch.layout.archives patch.layout.factor ≡ None
    → ((place : ℕ × ℕ) → IsPlace patch.layout place → stored_cell patch.layout.archives new place ≡ ring_cell patch old place)
    → (rings : Rings) → ReadsAs patch old rings → ReadsAs (bare patch.path patch.layout) new rings
unfolding value_of ring_cell
reads_same patch old new lawful same rings reads = λ i bucket.
    archive_alike patch (bare patch.path patch.layout) old new i bucket (slice_get patch.layout.archives i) refl lawful same ∙ reads i bucket
