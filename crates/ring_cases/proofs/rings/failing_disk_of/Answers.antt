-- The file is the same on a disk that fails.
use Rattle.std.proofs.Common.{subst, sym, Some, false}
use Rattle.outside_io.specs.Image.{Image}
use Rattle.ring_archive.specs.Ring.{HoldsRing}
use Rattle.ring_cases.proofs.rings.failing_disk_of.Goals as goal

pub returns : goal.returns
returns c =
    subst (λ (image : Image). HoldsRing false (Some image) c.args.name.now c.args.version c.args.layout.now.archives)
    (sym c.failing_reads.ensures.image) c.in_ok-disk.ensures
