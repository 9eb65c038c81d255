use Rattle.std.proofs.Common.{rules}
use Rattle.shared_store.proofs.AskReadLemmas.{bare_fetched}
use Rattle.shared_store.proofs.bare_reading.values_of_pending.Goals as goal

pub returns-in-Ok : goal.returns-in-Ok
returns-in-Ok c =
    bare_fetched c.new-view.result c.new-patch.result c.new-patch.result.path _ c.list-pending.result.now c.args.looked.now c.in-Ok.values.items c.new.result
    (search rules) c.new-view.ensures.layout c.list-pending.ensures.list c.new.ensures c.in-Ok.ensures.fetches
