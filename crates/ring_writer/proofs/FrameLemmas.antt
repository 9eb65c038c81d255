-- A file whose length and head stay, whatever becomes of its cells.
use Rattle.std.proofs.Common.{◌≡◌, ◌∙◌, ℕ, ◌≤◌, List, length, take, sym, ap}
use Rattle.std.proofs.lemmas.List.{take-take}
use Rattle.outside_io.specs.Image.{IsTorn}
use Rattle.ring_format.specs.Layout.{LayoutValue}
use Rattle.ring_format.specs.LayoutFile.{head_size}
use Rattle.ring_archive.specs.Ring.{IsRingFile}
use Rattle.ring_writer.proofs.CreatedLemmas.{length-head}

-- the new bytes are as many as the old ones and begin with the same head
pub record IsFramed (layout : LayoutValue) (old new : List ℕ) : Type 0 where
  pub long : length new ≡ length old
  pub head : take (head_size (length layout.archives)) new ≡ take (head_size (length layout.archives)) old

-- bytes that were torn behind the head
pub torn_framed : (layout : LayoutValue) (old new : List ℕ) (at count : ℕ) → head_size (length layout.archives) ≤ at → IsTorn old new at count → IsFramed layout old new
torn_framed layout old new at count behind torn = record {
  long = torn.0;
  head =
      sym (take-take (head_size (length layout.archives)) at new behind)
      ∙ ap (take (head_size (length layout.archives))) torn.1
      ∙ take-take (head_size (length layout.archives)) at old behind;
}

-- a ring file stays one
pub framed_ring : (layout : LayoutValue) (old new : List ℕ) → IsRingFile layout old → IsFramed layout old new → IsRingFile layout new
framed_ring layout old new whole framed =
    let head = length-head layout in (
      ap (λ (n : ℕ). take n new) head ∙ framed.head ∙ sym (ap (λ (n : ℕ). take n old) head) ∙ whole.0,
      framed.long ∙ whole.1,
    )
