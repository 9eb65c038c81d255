use Rattle.std.proofs.Common.{Option, IfSome, subst, sym}
use Rattle.write_shelf.specs.Shelf.{DrainValue}
use Rattle.ring_writer.specs.PartWritten.{AwaitsNext}
use Rattle.ring_writer.proofs.NextLemmas.{put_awaits}
use Rattle.ring_cases.proofs.writes.drain_patch.Goals as goal

pub drain-requires : goal.drain-requires
drain-requires g c =
    subst (λ (shelf : Option DrainValue). IfSome (g.D.Disk.image c.args.disk.now) (λ image. AwaitsNext shelf (image c.args.name.now))) (sym c.put.ensures.value)
    (put_awaits c.args.patch c.args.name.now (g.D.Disk.image c.args.disk.now) c.requires)
