use Rattle.std.proofs.Common.{◌∙◌, length, ap, arith}
use Rattle.std.proofs.lemmas.List.{length-replicate}
use Rattle.ring_archive.proofs.UnderLemmas.{under_all}
use Rattle.ring_archive.proofs.PickedLemmas.{no_buckets}
use Rattle.ring_archive.proofs.view.RingView.cells.Goals as goal

pub returns-then-first-archive-ne0-clause-values : goal.returns-then-first-archive-ne0-clause-values
returns-then-first-archive-ne0-clause-values g c =
    under_all c.args.patch.now.fresh (g.D.Disk.image c.args.disk.now) c.args.self.now.name.now c.args.self.now.version c.args.self.now.layout.archives _ c.requires.file.1 (λ file.
    no_buckets c.args.patch.now file c.args.archive c.args.first c.args.count c.archive.result _ (rw c.requires.layout c.archive.ensures.value) (omega arith) (omega arith) c.in_ok-no_values.ensures)

pub returns-then-first-archive-ne0-clause-count : goal.returns-then-first-archive-ne0-clause-count
returns-then-first-archive-ne0-clause-count g c = ap length c.in_ok-no_values.ensures ∙ length-replicate c.args.count _
