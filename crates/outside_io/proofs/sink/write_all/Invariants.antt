-- So far the front of the text was written.
use Rattle.std.proofs.Common.{◌≡◌, ◌-◌, ◌≤◌, length, take}
use Rattle.std.specs.Io.KnownBytes.{Appends}
use Rattle.outside_io.proofs.sink.write_all.Given as goal

abbrev pub invariant-loop-at : goal.invariant-loop-at
invariant-loop-at g l = record {
  within : l.at ≤ length l.text;
  written : Appends (g.K.Sink.written l.fn.out) (g.K.Sink.written l.out) (take l.at l.text);
  later : g.K.Sink.write_faults l.fn.out ≤ g.K.Sink.write_faults l.out;
  beside : g.K.Sink.beside_write l.out ≡ g.K.Sink.beside_write l.fn.out;
}

abbrev pub decreases-loop-at : goal.decreases-loop-at
decreases-loop-at g l = length l.text - l.at
