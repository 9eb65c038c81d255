use Rattle.shard_core.specs.Halves.{desk_of}
use Rattle.shard_core.proofs.shard.Shard.read.Goals as goal

pub returns-in-Ok-fetch_looked-clause-reads : goal.returns-in-Ok-fetch_looked-clause-reads
returns-in-Ok-fetch_looked-clause-reads g c = (
  c.in-Ok.ensures.same,
  c.in-Ok-fetch_looked.ensures.shows (desk_of c.args.self.now.desk) (record { halves = c.args.self.now.halves; may = c.requires; kept = c.in-Ok.ensures.kept }),
)

pub returns-in-Ok-fetch_looked-clause-unread : goal.returns-in-Ok-fetch_looked-clause-unread
returns-in-Ok-fetch_looked-clause-unread g c =
    c.fetch_looked.ensures.unread (desk_of c.args.self.now.desk) (record { halves = c.args.self.now.halves; may = c.requires; kept = c.in-Ok.ensures.kept })

pub returns-in-Err-DiskFault-clause-unread : goal.returns-in-Err-DiskFault-clause-unread
returns-in-Err-DiskFault-clause-unread g c =
    c.fetch_looked.ensures.unread (desk_of c.args.self.now.desk) (record { halves = c.args.self.now.halves; may = c.requires; kept = c.in-Ok.ensures.kept })

pub returns-in-Err-NoMemory-clause-unread : goal.returns-in-Err-NoMemory-clause-unread
returns-in-Err-NoMemory-clause-unread g c =
    c.fetch_looked.ensures.unread (desk_of c.args.self.now.desk) (record { halves = c.args.self.now.halves; may = c.requires; kept = c.in-Ok.ensures.kept })
