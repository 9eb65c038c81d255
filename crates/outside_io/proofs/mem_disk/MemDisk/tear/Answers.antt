use Rattle.outside_io.proofs.LogLemmas.{tear_crashes}
use Rattle.outside_io.proofs.mem_disk.MemDisk.tear.Goals as goal

pub returns-in-Ok-clause-crash : goal.returns-in-Ok-clause-crash
returns-in-Ok-clause-crash c =
    tear_crashes c.args.self.now _ c.args.name.now c.args.at c.args.count 255 c.in-Ok.ensures.ok c.tear_file.ensures c.requires
