-- What the calls of a disk, a source or a sink leave as it was, each in one fact.
use Rattle.std.specs.Prelude.{◌≡◌, ◌≤◌}
use Rattle.outside_io.specs.Faults.{Rose}
use Rattle.outside_io.specs.declared.disk.Disk.{Ghosts as DiskGhosts}
use Rattle.outside_io.specs.declared.source.Source.{Ghosts as SourceGhosts}
use Rattle.outside_io.specs.declared.sink.Sink.{Ghosts as SinkGhosts}

-- a call that only reads a disk: the disk tells what it told, nothing was changed that a crash may undo, its count of
-- failed calls did not fall, and the count rose where the call failed
pub record ReadsOnly {D : Type 0} (d : DiskGhosts D) (old new : D) (failed : Type 0) : Type 0 where
  pub kept : d.image new ≡ d.image old
  pub changes : d.changes new ≡ d.changes old
  pub later : d.faults old ≤ d.faults new
  pub cause : failed → Rose (d.faults old) (d.faults new)

-- a call that may write to a disk: its count of failed calls did not fall, and it rose where the call failed
pub record CountsFaults {D : Type 0} (d : DiskGhosts D) (old new : D) (failed : Type 0) : Type 0 where
  pub later : d.faults old ≤ d.faults new
  pub cause : failed → Rose (d.faults old) (d.faults new)

-- the same of the failed reads of a source
pub record CountsReads {S : Type 0} (s : SourceGhosts S) (old new : S) (failed : Type 0) : Type 0 where
  pub later : s.read_faults old ≤ s.read_faults new
  pub cause : failed → Rose (s.read_faults old) (s.read_faults new)

-- the same of the failed writes of a sink
pub record CountsWrites {K : Type 0} (k : SinkGhosts K) (old new : K) (failed : Type 0) : Type 0 where
  pub later : k.write_faults old ≤ k.write_faults new
  pub cause : failed → Rose (k.write_faults old) (k.write_faults new)
