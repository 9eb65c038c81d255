use Rattle.std.proofs.Common.{◌∙◌, arith}
use Rattle.std.proofs.lemmas.List.{length-set}
use Rattle.ring_format.proofs.ArchiveListLemmas.{padding_shrinks, room_left}
use Rattle.ring_format.proofs.archive_list.ArchiveList.push.Goals as goal

pub invariant_of-self : goal.invariant_of-self
invariant_of-self c =
    let room = room_left c.self.inside.items c.self.inside.count c.args.self.now c.self.view_is c.self.invariant.0 c.self.invariant.1 c.requires in
    (omega arith, length-set c.self.inside.items c.self.inside.count c.args.archive ∙ c.self.invariant.1, padding_shrinks (record { step = 0; points = 0 }) c.args.archive c.self.inside.items c.self.inside.count room c.self.invariant.2)
