use Rattle.std.proofs.Common.{rules, ◌≡◌, length}
use Rattle.shard_core.specs.Halves.{both, desk_of}
use Rattle.shard_core.proofs.LookLemmas.{names_all}
use Rattle.shard_core.proofs.desk.Desk.names_again.Goals as goal

pub returns-then-len : goal.returns-then-len
returns-then-len c = λ files.
    let many : length c.args.self.now.table ≡ length c.args.names.items = search rules in
    names_all (both (desk_of c.args.self.now) files) c.args.names.items c.len.ensures.legal c.len.ensures.rising c.args.self.now.listed c.requires.known c.requires.rising many
