use Rattle.std.proofs.Common.{sym}
use Rattle.aggregate_front.proofs.IntervalLemmas.{parted_is}
use Rattle.aggregate_front.proofs.open_intervals.OpenIntervals.part.Goals as goal

pub returns : goal.returns
returns c =
    let within = rw (sym c.self.view_is) at c.requires in
    rw (sym c.self.view_is) (parted_is c.self.inside.items.items c.args.at c.index_mut.result.now c.take_back.new.self within c.index_mut.ensures.value c.take_back.ensures)
