use Rattle.shared_store.proofs.AskReadLemmas.{one_behind}
use Rattle.shared_store.proofs.store.Store.read_free.Goals as goal

pub returns-in-Ok-Some : goal.returns-in-Ok-Some
returns-in-Ok-Some g c =
    let n = g.N.Named in
    one_behind n.start n.told n.passes c.args.looked.now c.read_files.result c.args.pass.now c.recall.new.pass c.read_files.new.pass c.recall.ensures.looks c.read_files.ensures
