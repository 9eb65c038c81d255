use Rattle.std.proofs.Common.{false}
use Rattle.ring_archive.proofs.UnderLemmas.{under_map}
use Rattle.archive_update.proofs.CarryLemmas.{stretch_carried}
use Rattle.archive_update.proofs.carrying.carry_stretch.Goals as goal

pub returns-clause-carries : goal.returns-clause-carries
returns-clause-carries g c =
    let lay = rw c.deref.ensures.value at c.in_ok-lay_stretch.ensures.carries in
    under_map false (g.D.Disk.image c.args.disk.now) c.args.view.now.name.now _ _ c.in_ok-cells.ensures.cells (λ file are.
    stretch_carried c.args.patch.now c.lay_stretch.new.patch c.args.view.now.layout file c.args.archive c.args.slot c.args.count c.in_ok-cells.cells.items c.requires.layout c.in_ok-cells.ensures.count lay are)
