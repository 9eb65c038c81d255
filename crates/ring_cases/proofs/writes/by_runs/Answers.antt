-- The file is the same on a disk that fails.
use Rattle.std.proofs.Common.{◌∷◌, [], IsSomeAnd, subst, sym}
use Rattle.outside_io.specs.Image.{Image}
use Rattle.ring_archive.specs.Ring.{IsRingFile}
use Rattle.ring_cases.proofs.writes.by_runs.Goals as goal

pub left_on-requires : goal.left_on-requires
left_on-requires c = λ over.
    subst (λ (image : Image). IsSomeAnd (image (97 ∷ [])) (IsRingFile c.args.drained.now.layout)) (sym c.in_ok-disk-2.ensures)
    (c.in_ok-disk.ensures over)
