use Rattle.std.proofs.Common.{sym}
use Rattle.indexmap.proofs.MapLemmas.{OnOk-map}
use Rattle.aggregate_front.proofs.IntervalLemmas.{joined_is}
use Rattle.aggregate_front.proofs.open_intervals.OpenIntervals.join.Goals as goal

pub returns-clause-ok : goal.returns-clause-ok
returns-clause-ok c =
    let within = rw (sym c.self.view_is) at c.requires in
    rw (sym c.self.view_is) (OnOk-map c.push.result _ _ (joined_is c.self.inside.items.items c.args.at c.index_mut.result.now c.push.new.self c.args.point within c.index_mut.ensures.value) c.push.ensures.ok)
