-- A file that is written in part, and what one more run makes of it.
use Rattle.std.proofs.Common.{◌≡◌, ◌≢◌, ◌∙◌, ◌⊎◌, ℕ, ◌+◌, ◌*◌, ◌<◌, ◌≤◌, Bool, true, false, List, [], ◌∷◌, ◌++◌, flat_map, length, take, None, inl, inr, refl, sym, ap, subst, arith}
use Rattle.std.specs.Prelude.{replicate}
use Rattle.std.specs.Map.{keys_of}
use Rattle.std.proofs.lemmas.Bool.{true≢false}
use Rattle.std.proofs.lemmas.List.{length-replicate}
use Rattle.outside_io.specs.Image.{IsTorn, put_over}
use Rattle.ring_format.specs.Head.{head_bytes, version_of}
use Rattle.ring_format.specs.Layout.{LayoutValue, layout_fault}
use Rattle.ring_format.specs.LayoutFile.{file_size_of}
use Rattle.ring_format.specs.Patch.{IsPlace, PatchValue, cell_at}
use Rattle.ring_format.specs.Cell.{cell_size}
use Rattle.ring_format.proofs.WrittenHeads.{version_is}
use Rattle.ring_archive.specs.Ring.{AgreeAside, IsRingFile, ReadsAs, Rings, cell_from, cell_offset, ring_cell, stored_cell, zero_cell}
use Rattle.ring_archive.proofs.AlikeLemmas.{aside_alike, cells_alike, fresh_alike, fresh_cell}
use Rattle.write_shelf.specs.AreRuns.{places_in}
use Rattle.write_shelf.specs.Runs.{runs_of}
use Rattle.write_shelf.specs.Shelf.{AreLaid, ReadsBack, cells_bytes}
use Rattle.write_shelf.specs.declared.run.Run.{Run}
use Rattle.write_shelf.specs.declared.run.Run.TheVariants.{Create, Cells, Head}
use Rattle.write_shelf.proofs.BytesLemmas.{length-cells_bytes}
use Rattle.ring_writer.specs.Laid.{IsLaid}
use Rattle.ring_writer.specs.PartWritten.{IsLeft, IsPartWritten}
use Rattle.ring_writer.proofs.CreatedLemmas.{length-head, zeros_there}
use Rattle.ring_writer.proofs.FileRanges.{front_is}
use Rattle.ring_writer.proofs.FrameLemmas.{framed_ring, torn_framed}
use Rattle.ring_writer.proofs.ReadLemmas.{reads_same}
use Rattle.ring_writer.proofs.RunLemmas.{aside_of, each_place, left_aside, none_laid, other_last, which}
use Rattle.ring_writer.proofs.TornLemmas.{cell_there, cells_torn_aside, head_torn_aside, not_in_run, put_torn, run_bounds}

pub not_both : {b : Bool} → b ≡ true → b ≡ false → ⊥
not_both is other = true≢false (sym is ∙ other)

-- the file with these runs left, and one that was there differs from the old one only where the patch
-- lays cells
pub record FollowsOn (patch : PatchValue) (left : List Run) (old new : List ℕ) : Type 0 where
  pub part : IsPartWritten patch left new
  pub agree : patch.fresh ≡ false → AgreeAside patch old new

-- ---- a file of version 2

two_of : (layout : LayoutValue) (file : List ℕ) → IsRingFile layout file → version_of file ≡ 2
two_of layout file whole = version_is 2 layout file (inr refl) whole.0

stored_two : (layout : LayoutValue) (file : List ℕ) (place : ℕ × ℕ) → IsRingFile layout file
    → stored_cell layout.archives file place ≡ cell_from 2 layout.archives file place
unfolding stored_cell
stored_two layout file place whole = ap (λ (version : ℕ). cell_from version layout.archives file place) (two_of layout file whole)

-- ---- what a patch means of two files that differ only where it lays cells

alike_by : (fresh : Bool) (patch : PatchValue) (old new : List ℕ) → patch.fresh ≡ fresh → (patch.fresh ≡ false → AgreeAside patch old new)
    → (place : ℕ × ℕ) → IsPlace patch.layout place → ring_cell patch new place ≡ ring_cell patch old place
alike_by true patch old new is agree = λ place at. fresh_cell patch old new place is
alike_by false patch old new is agree = cells_alike patch old new (agree is)

ring_alike : (patch : PatchValue) (old new : List ℕ) → (patch.fresh ≡ false → AgreeAside patch old new)
    → (place : ℕ × ℕ) → IsPlace patch.layout place → ring_cell patch new place ≡ ring_cell patch old place
ring_alike patch old new agree = alike_by _ patch old new refl agree

reads_by : (fresh : Bool) (patch : PatchValue) (old new : List ℕ) (rings : Rings) → layout_fault patch.layout.archives patch.layout.factor ≡ None → patch.fresh ≡ fresh
    → (patch.fresh ≡ false → AgreeAside patch old new) → ReadsAs patch old rings → ReadsAs patch new rings
reads_by true patch old new rings lawful is agree reads = fresh_alike patch old new rings is reads
reads_by false patch old new rings lawful is agree reads = aside_alike patch old new rings lawful (agree is) reads

pub reads_on : (patch : PatchValue) (left : List Run) (old new : List ℕ) (rings : Rings) → layout_fault patch.layout.archives patch.layout.factor ≡ None
    → FollowsOn patch left old new → ReadsAs patch old rings → ReadsAs patch new rings
reads_on patch left old new rings lawful follows reads = reads_by _ patch old new rings lawful refl follows.agree reads

-- ---- a run of cells

pub head_still : (patch : PatchValue) (archive slot count n : ℕ) (old new : List ℕ) → AreLaid patch archive slot count → IsTorn old new (cell_offset 2 patch.layout.archives (archive, slot)) n
    → IsRingFile patch.layout old → IsRingFile patch.layout new
head_still patch archive slot count n old new laid torn whole =
    framed_ring patch.layout old new whole (torn_framed patch.layout old new (cell_offset 2 patch.layout.archives (archive, slot)) n (run_bounds patch archive slot count laid).0 torn)

pub cells_agree : (patch : PatchValue) (archive slot count n : ℕ) (old new : List ℕ) → AreLaid patch archive slot count → n ≡ cell_size * count
    → IsTorn old new (cell_offset 2 patch.layout.archives (archive, slot)) n → IsRingFile patch.layout old → AgreeAside patch old new
cells_agree patch archive slot count n old new laid long torn whole = λ place is none.
    stored_two patch.layout new place (head_still patch archive slot count n old new laid torn whole)
    ∙ cells_torn_aside patch archive slot count n old new place laid long torn is (not_in_run patch archive slot count place laid none)
    ∙ sym (stored_two patch.layout old place whole)

-- a slot beside the run holds what it held
still : (patch : PatchValue) (archive slot count n : ℕ) (later : List Run) (old new : List ℕ) (place : ℕ × ℕ) → AreLaid patch archive slot count → n ≡ cell_size * count
    → IsTorn old new (cell_offset 2 patch.layout.archives (archive, slot)) n → IsPartWritten patch (Cells archive slot count ∷ later) old → IsPlace patch.layout place
    → ((k : ℕ) → k < count → (archive, slot + k) ≢ place) → (IsLeft (Cells archive slot count ∷ later) place → ⊥)
    → cell_from 2 patch.layout.archives new place ≡ ring_cell patch new place
still patch archive slot count n later old new place laid long torn part is differs none =
    cells_torn_aside patch archive slot count n old new place laid long torn is differs
    ∙ part.cells place is none
    ∙ sym (ring_alike patch old new (λ over. cells_agree patch archive slot count n old new laid long torn (part.head (inl over))) place is)

pub cells_failed : (patch : PatchValue) (archive slot count n : ℕ) (later : List Run) (old new : List ℕ) → AreLaid patch archive slot count → n ≡ cell_size * count
    → IsPartWritten patch (Cells archive slot count ∷ later) old → IsTorn old new (cell_offset 2 patch.layout.archives (archive, slot)) n → FollowsOn patch (Cells archive slot count ∷ later) old new
cells_failed patch archive slot count n later old new laid long part torn = record {
  part = record {
    long = torn.0 ∙ part.long;
    head = λ why. head_still patch archive slot count n old new laid torn (part.head why);
    cells = λ place is none. still patch archive slot count n later old new place laid long torn part is (aside_of archive slot count later place none) none;
  };
  agree = λ over. cells_agree patch archive slot count n old new laid long torn (part.head (inl over));
}

-- the file is not fresh where no run is left behind the cells
cells_last : (patch : PatchValue) (archive slot count : ℕ) (written later : List Run) → runs_of patch ≡ written ++ Cells archive slot count ∷ later → (patch.fresh ≡ false) ⊎ (later ≡ []) → patch.fresh ≡ false
cells_last patch archive slot count written later runs (inl over) = over
cells_last patch archive slot count written later runs (inr none) =
    other_last patch written (Cells archive slot count) (runs ∙ ap (λ (xs : List Run). written ++ Cells archive slot count ∷ xs) none) (λ e. absurd cc)

pub cells_written : (patch : PatchValue) (archive slot count : ℕ) (written later : List Run) (old new piece : List ℕ) → AreLaid patch archive slot count → ReadsBack patch (Cells archive slot count)
    → runs_of patch ≡ written ++ Cells archive slot count ∷ later → IsPartWritten patch (Cells archive slot count ∷ later) old → piece ≡ cells_bytes patch.cells archive slot count
    → new ≡ put_over old (cell_offset 2 patch.layout.archives (archive, slot)) piece → FollowsOn patch later old new
cells_written patch archive slot count written later old new piece laid back runs part is put =
    let at : ℕ = cell_offset 2 patch.layout.archives (archive, slot) in
    let long : length piece ≡ cell_size * count = ap length is ∙ length-cells_bytes patch.cells archive slot count laid.laid in
    let bounds = run_bounds patch archive slot count laid in
    let fits : cell_offset 2 patch.layout.archives (archive, slot) + length piece ≤ length old = omega (arith, bounds.1, part.long) in
    let torn : IsTorn old new (cell_offset 2 patch.layout.archives (archive, slot)) (length piece) = rw put (put_torn old piece (cell_offset 2 patch.layout.archives (archive, slot)) fits) in
    record {
      part = record {
        long = torn.0 ∙ part.long;
        head = λ why. head_still patch archive slot count (length piece) old new laid torn (part.head (inl (cells_last patch archive slot count written later runs why)));
        cells = λ place at_place none. elim (which archive slot count place) [
          | inl own ↦
              subst (λ (p : ℕ × ℕ). cell_from 2 patch.layout.archives new p ≡ ring_cell patch new p) own.2
              (cell_there patch archive slot count own.0 old new piece laid back own.1 is (omega arith) put)
          | inr differs ↦ still patch archive slot count (length piece) later old new place laid long torn part at_place differs (left_aside archive slot count later place differs none)
        ];
      };
      agree = λ over. cells_agree patch archive slot count (length piece) old new laid long torn (part.head (inl over));
    }

-- ---- the head

pub head_failed : (patch : PatchValue) (n : ℕ) (later : List Run) (old new : List ℕ) → patch.fresh ≡ true → n ≡ length (head_bytes patch.layout)
    → IsPartWritten patch (Head ∷ later) old → IsTorn old new 0 n → FollowsOn patch (Head ∷ later) old new
head_failed patch n later old new fresh is part torn =
    let agree : patch.fresh ≡ false → AgreeAside patch old new = λ over. absurd (not_both fresh over) in
    record {
      part = record {
        long = torn.0 ∙ part.long;
        head = λ why. elim why [
          | inl over ↦ absurd (not_both fresh over)
          | inr none ↦ absurd cc
        ];
        cells = λ place at none.
            head_torn_aside patch.layout n old new place is torn at ∙ part.cells place at none ∙ sym (ring_alike patch old new agree place at);
      };
      agree = agree;
    }

pub head_written : (patch : PatchValue) (old new piece : List ℕ) → IsPartWritten patch (Head ∷ []) old → piece ≡ head_bytes patch.layout → new ≡ put_over old 0 piece → FollowsOn patch [] old new
head_written patch old new piece part is put =
    let long : length piece ≡ length (head_bytes patch.layout) = ap length is in
    let fits : 0 + length piece ≤ length old = omega (arith, long, length-head patch.layout, part.long) in
    let torn : IsTorn old new 0 (length piece) = rw put (put_torn old piece 0 fits) in
    let whole : IsRingFile patch.layout new = (ap (λ (m : ℕ). take m new) (sym long) ∙ ap (take (length piece)) put ∙ front_is old piece ∙ is, torn.0 ∙ part.long) in
    let agree : patch.fresh ≡ false → AgreeAside patch old new = λ over place at none.
    stored_two patch.layout new place whole
    ∙ head_torn_aside patch.layout (length piece) old new place long torn at
    ∙ sym (stored_two patch.layout old place (part.head (inl over))) in
    record {
      part = record {
        long = torn.0 ∙ part.long;
        head = λ why. whole;
        cells = λ place at none.
            head_torn_aside patch.layout (length piece) old new place long torn at ∙ part.cells place at none ∙ sym (ring_alike patch old new agree place at);
      };
      agree = agree;
    }

-- ---- the creation

zero_when_none : (patch : PatchValue) (file : List ℕ) (place : ℕ × ℕ) → patch.fresh ≡ true → cell_at patch.cells place ≡ None → ring_cell patch file place ≡ zero_cell
unfolding ring_cell
zero_when_none patch file place fresh none = rw (none, fresh) refl

pub file_made : (patch : PatchValue) (size : ℕ) (later : List Run) (new : List ℕ) → patch.fresh ≡ true → size ≡ file_size_of patch.layout.archives → Create size ∷ later ≡ runs_of patch
    → new ≡ replicate size 0 → IsPartWritten patch later new
file_made patch size later new fresh is runs made =
    let zeros : new ≡ replicate (file_size_of patch.layout.archives) 0 = made ∙ ap (λ (n : ℕ). replicate n 0) is in
    let all : flat_map places_in later ≡ keys_of patch.cells = ap (flat_map places_in) runs ∙ each_place patch in
    record {
      long = ap length zeros ∙ length-replicate (file_size_of patch.layout.archives) 0;
      head = λ why. elim why [
        | inl over ↦ absurd (not_both fresh over)
        | inr none ↦ absurd (not_both fresh (other_last patch [] (Create size) (sym runs ∙ ap (λ (xs : List Run). Create size ∷ xs) none) (λ e. absurd cc)))
      ];
      cells = λ place at none.
          ap (λ (file : List ℕ). cell_from 2 patch.layout.archives file place) zeros
          ∙ zeros_there patch.layout place at
          ∙ sym (zero_when_none patch new place fresh (none_laid patch later place all none));
    }

-- ---- before the first run, and behind the last

stored_when_none : (patch : PatchValue) (file : List ℕ) (place : ℕ × ℕ) → patch.fresh ≡ false → cell_at patch.cells place ≡ None → stored_cell patch.layout.archives file place ≡ ring_cell patch file place
unfolding ring_cell
stored_when_none patch file place over none = rw (none, over) refl

pub ring_file_begun : (patch : PatchValue) (file : List ℕ) → patch.fresh ≡ false → IsRingFile patch.layout file → IsPartWritten patch (runs_of patch) file
ring_file_begun patch file over whole = record {
  long = whole.1;
  head = λ why. whole;
  cells = λ place at none. sym (stored_two patch.layout file place whole) ∙ stored_when_none patch file place over (none_laid patch (runs_of patch) place (each_place patch) none);
}

pub none_in_none : (place : ℕ × ℕ) → IsLeft [] place → ⊥
none_in_none place there = absurd (omega (arith, there.1))

pub part_laid : (patch : PatchValue) (file : List ℕ) → layout_fault patch.layout.archives patch.layout.factor ≡ None → IsPartWritten patch [] file → IsLaid patch file file
part_laid patch file lawful part = record {
  whole = part.head (inr refl);
  reads = reads_same patch file file lawful (λ place at. stored_two patch.layout file place (part.head (inr refl)) ∙ part.cells place at (none_in_none place));
}
