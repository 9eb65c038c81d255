use Rattle.write_shelf.proofs.RunLemmas.{begun_more}
use Rattle.write_shelf.proofs.drain.Drain.after.Goals as goal

pub invariant_of-result : goal.invariant_of-result
invariant_of-result c =
    (c.in_ok-next.ensures.sound, begun_more c.self.inside.patch c.self.inside.next c.in_ok-next.next c.self.invariant.1 c.in_ok-next.ensures.first)
