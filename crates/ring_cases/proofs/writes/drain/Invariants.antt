-- The next run is awaited, of the same patch; where none is left, the file is a ring file.
use Rattle.std.proofs.Common.{◌≡◌}
use Rattle.std.specs.Prelude.{None, IfSome}
use Rattle.ring_archive.specs.Ring.{IsRingFile, OnFile}
use Rattle.ring_writer.specs.PartWritten.{AwaitsNext}
use Rattle.ring_cases.proofs.writes.drain.Given as goal

abbrev pub invariant-loop : goal.invariant-loop
invariant-loop g l = record {
  awaits : IfSome (g.D.Disk.image l.disk) (λ image. AwaitsNext l.shelf (image l.name));
  same : IfSome l.fn.shelf (λ drain. IfSome l.shelf (λ later. later.patch ≡ drain.patch));
  last : IfSome l.fn.shelf (λ drain. l.shelf ≡ None → OnFile (g.D.Disk.image l.disk) l.name (IsRingFile drain.patch.layout));
}
