-- The cells so far are laid.
use Rattle.std.proofs.Common.{◌≡◌, ◌+◌, ℕ, List, length, true}
use Rattle.ring_archive.specs.Ring.{stored_cells}
use Rattle.archive_update.specs.Carried.{CarriesTo, has_base}
use Rattle.archive_update.specs.Laid.{IsAlike}
use Rattle.archive_update.proofs.carrying.lay_stretch.Given as goal

abbrev pub invariant-loop-k : goal.invariant-loop-k
invariant-loop-k l = record {
  carries : (file : List ℕ) → has_base l.fn.patch.layout.archives file l.archive ≡ true
      → l.cells ≡ stored_cells l.fn.patch.layout.archives file l.archive l.slot (length l.cells) → CarriesTo l.fn.patch file l.archive l.slot → CarriesTo l.patch file l.archive (l.slot + l.k);
  alike : IsAlike l.fn.patch l.patch;
}
