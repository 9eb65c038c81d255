use Rattle.std.proofs.Common.{List, sym, subst}
use Rattle.carbon_history.specs.declared.entry.Entry.{Entry}
use Rattle.shared_store.specs.Asking.{AreDesksOf}
use Rattle.shared_store.proofs.AskPassLemmas.{desks_entered, enters_behind}
use Rattle.shared_store.proofs.store.Store.enter_behind.Goals as goal

pub returns-clause-enters : goal.returns-clause-enters
returns-clause-enters g c = enters_behind _ _ _ _ _ _ c.enter_try.ensures

pub returns-clause-desks : goal.returns-clause-desks
returns-clause-desks g c =
    let order : List Entry = c.agree_all.new.order in
    let desks = c.agree_all.new.desks.items in
    let are : AreDesksOf order desks = subst (λ (l : List Entry). AreDesksOf l desks) (sym c.agree_all.ensures.order) c.agree_all.ensures.desks in
    desks_entered order c.args.pass.now c.args.attempt c.args.now c.enter_try.new.pass.seen desks c.enter_try.ensures.seen are
