use Rattle.ring_archive.proofs.UnderLemmas.{under_all}
use Rattle.ring_archive.proofs.HeldLemmas.{fresh_held}
use Rattle.ring_archive.proofs.view.RingView.held_cells.Goals as goal

pub returns-then-fresh-clause-cells : goal.returns-then-fresh-clause-cells
returns-then-fresh-clause-cells g c =
    under_all c.args.fresh (g.D.Disk.image c.args.disk.now) c.args.self.now.name.now c.args.self.now.version c.args.self.now.layout.archives _ c.requires.file.1 (λ file.
    fresh_held c.args.fresh c.args.self.now.layout.archives file c.args.round c.in_ok-bytes.bytes.items _ c.if-fresh.true c.in_ok-bytes.ensures)
