use Rattle.std.proofs.Common.{◌≤◌, Option, IfSome, IsSomeAnd, length, subst, sym}
use Rattle.outside_io.specs.Image.{Image}
use Rattle.ring_format.specs.Head.{head_bytes}
use Rattle.redo_log.proofs.RecoverLemmas.{head_room}
use Rattle.redo_log.proofs.looking.has_ring.Goals as goal

pub has_head-requires : goal.has_head-requires
has_head-requires g c =
    subst (λ (o : Option Image). IfSome o (λ image. IsSomeAnd (image c.args.name.now) (λ file. length (head_bytes c.args.layout.now) ≤ length file))) (sym c.has_length.ensures.frame.kept)
    (head_room (g.D.Disk.image c.args.disk.now) c.args.name.now c.args.layout.now _ _ c.in-Ok-true.ensures.value c.in-Ok-true.field-0-test c.file_size.ensures.value)
