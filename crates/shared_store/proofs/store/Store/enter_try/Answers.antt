use Rattle.std.proofs.Common.{List, sym, subst}
use Rattle.carbon_history.specs.declared.entry.Entry.{Entry}
use Rattle.shared_store.specs.Asking.{AreDesksOf}
use Rattle.shared_store.proofs.AskPassLemmas.{enters_tries}
use Rattle.shared_store.proofs.store.Store.enter_try.Goals as goal

pub returns-clause-enters : goal.returns-clause-enters
returns-clause-enters g c =
    let n = g.N.Named in
    enters_tries n.start n.passes c.args.pass.now c.enter_behind.new.pass c.mark_all.new.pass c.args.attempt c.args.now c.enter_behind.ensures.enters c.mark_all.ensures.marks

pub returns-clause-desks : goal.returns-clause-desks
returns-clause-desks g c =
    subst (λ (l : List Entry). AreDesksOf l c.mark_all.new.desks.items) (sym c.mark_all.ensures.marks.only.seen) c.mark_all.ensures.desks

pub returns-clause-still : goal.returns-clause-still
returns-clause-still g c = λ list are. c.mark_all.ensures.still list (c.enter_behind.ensures.still list are)
