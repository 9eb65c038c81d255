use Rattle.ring_archive.proofs.UnderLemmas.{under_map}
use Rattle.archive_update.proofs.ClearLemmas.{prepares_stale}
use Rattle.archive_update.proofs.laying.clear_stale.Goals as goal

pub returns-clause-prepares : goal.returns-clause-prepares
returns-clause-prepares g c =
    under_map c.args.patch.now.fresh (g.D.Disk.image c.args.disk.now) c.args.view.now.name.now _ _ c.in_ok-slots.ensures.slots (λ file stale none.
    prepares_stale c.args.patch.now c.clear_slots.new.patch c.args.archive c.in_ok-slots.slots.items file (rw c.requires.layout c.requires.archive) c.in_ok-clear_slots.ensures.alike none stale
    (rw (← c.deref.ensures.value) c.in_ok-clear_slots.ensures.cleared))
