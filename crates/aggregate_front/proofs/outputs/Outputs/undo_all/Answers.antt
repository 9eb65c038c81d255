use Rattle.aggregate_front.proofs.DeedLemmas.{did_last, did_same}
use Rattle.aggregate_front.proofs.outputs.Outputs.undo_all.Goals as goal

pub undo-requires : goal.undo-requires
undo-requires c =
    let some = c.loop-deed.invariant.some in
    let items = rw c.in-Some.is at c.pop.ensures.items in
    let last = did_last some.0 c.loop-deed.self c.loop-deed.deeds.items c.pop.new.self.items c.in-Some.deed items some.1 in
    (last.0, last.2)

pub loop-deed-preserved : goal.loop-deed-preserved
loop-deed-preserved c =
    let some = c.loop-deed.invariant.some in
    let items = rw c.in-Some.is at c.pop.ensures.items in
    record {
      some = (some.0, did_same some.0 c.loop-deed.self c.undo.new.self c.loop-deed.deeds.items c.pop.new.self.items c.in-Some.deed items c.undo.ensures some.1);
      same = λ before all. did_same before c.loop-deed.self c.undo.new.self c.loop-deed.deeds.items c.pop.new.self.items c.in-Some.deed items c.undo.ensures (c.loop-deed.invariant.same before all);
    }
