use Rattle.std.proofs.Common.{refl}
use Rattle.outside_io.proofs.LogLemmas.{sync_crashes}
use Rattle.outside_io.proofs.mem_disk.MemDiskDisk.sync.Goals as goal

pub returns-in-Ok-clause-crash : goal.returns-in-Ok-clause-crash
returns-in-Ok-clause-crash c = sync_crashes c.args.self.now _ refl c.in-Ok.ensures.ok
