use Rattle.shard_core.specs.Halves.{desk_of, files_of}
use Rattle.shard_core.proofs.HalvesLemmas.{begins_picked}
use Rattle.shard_core.proofs.files.Files.begin_made.Goals as goal

pub returns-clause-begins : goal.returns-clause-begins
returns-clause-begins g c =
    begins_picked (desk_of c.args.desk.now) (desk_of c.place_of_next.new.self) (desk_of c.begin_at.new.desk) (files_of c.args.self.now) (files_of c.begin_at.new.self) c.begin_at.result c.args.next.now
    c.place_of_next.ensures.only c.begin_at.ensures.begins
