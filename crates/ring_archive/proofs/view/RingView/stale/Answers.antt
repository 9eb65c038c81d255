use Rattle.std.proofs.Common.{refl}
use Rattle.ring_archive.proofs.UnderLemmas.{under_map}
use Rattle.ring_archive.proofs.PickedLemmas.{stale_there}
use Rattle.ring_archive.proofs.view.RingView.stale.Goals as goal

pub returns-clause-slots : goal.returns-clause-slots
returns-clause-slots g c =
    under_map c.args.patch.now.fresh (g.D.Disk.image c.args.disk.now) c.args.self.now.name.now _ _ (rw c.fresh.ensures at c.in_ok-bytes.ensures.cells) (λ file holds.
    stale_there c.args.patch.now file c.args.archive c.archive-points.result _ _ _ (rw c.requires.layout c.archive-points.ensures.value) refl (rw (c.requires.layout, c.deref.ensures.value) holds) (rw (c.deref.ensures.value, c.in_ok-bytes.ensures.length) refl) c.in_ok-laid_slots.ensures)
