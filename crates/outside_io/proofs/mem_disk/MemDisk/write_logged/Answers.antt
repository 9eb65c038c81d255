use Rattle.outside_io.specs.MemDisk.{disk_image}
use Rattle.outside_io.proofs.LogLemmas.{write_crashes, write_may}
use Rattle.outside_io.proofs.mem_disk.MemDisk.write_logged.Goals as goal

pub returns-clause-crash : goal.returns-clause-crash
returns-clause-crash c =
    write_crashes c.args.self.now _ c.args.name.now c.args.piece.now c.args.at c.in_ok-log_range.ensures.ok c.write_file.ensures c.requires

pub returns-clause-may : goal.returns-clause-may
returns-clause-may c =
    write_may (disk_image c.args.self.now) _ c.args.self.now.log _ c.args.name.now c.args.piece.now c.args.at c.in_ok-log_range.ensures.ok c.write_file.ensures c.requires
