use Rattle.std.proofs.Common.{◌∙◌, false, length, ap}
use Rattle.std.proofs.lemmas.List.FromFn.{length-map-range_with_len}
use Rattle.ring_archive.proofs.PickedLemmas.{stored_there}
use Rattle.ring_archive.proofs.UnderLemmas.{under_map}
use Rattle.ring_archive.proofs.view.RingView.raw_cells.Goals as goal

pub returns-clause-cells : goal.returns-clause-cells
returns-clause-cells g c =
    let slots = rw c.archive.ensures.value at c.requires.slots in
    under_map false (g.D.Disk.image c.args.disk.now) c.args.self.now.name.now _ _ c.in_ok-bytes.ensures.cells (λ file holds.
    stored_there c.args.self.now.layout.archives file _ c.in_ok-bytes.bytes.items c.args.count _ holds c.in_ok-bytes.ensures.length slots.1 (rw c.deref.ensures.value at c.in_ok-cells_held.ensures))

pub returns-clause-count : goal.returns-clause-count
returns-clause-count g c = ap length c.in_ok-cells_held.ensures ∙ length-map-range_with_len _ 0 c.args.count
