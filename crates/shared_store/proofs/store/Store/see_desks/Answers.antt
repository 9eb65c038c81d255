use Rattle.std.proofs.Common.{List, sym, subst}
use Rattle.carbon_history.specs.declared.entry.Entry.{Entry}
use Rattle.shared_store.specs.Asking.{AreDesksOf}
use Rattle.shared_store.proofs.AskPassLemmas.{sees_desks}
use Rattle.shared_store.proofs.store.Store.see_desks.Goals as goal

pub returns-clause-sees : goal.returns-clause-sees
returns-clause-sees g c =
    let n = g.N.Named in
    sees_desks n.start n.passes c.args.pass.now c.see_behind.new.pass c.mark_all.new.pass c.see_behind.ensures.enters c.see_behind.ensures.looks c.mark_all.ensures.marks

pub returns-clause-desks : goal.returns-clause-desks
returns-clause-desks g c =
    subst (λ (l : List Entry). AreDesksOf l c.mark_all.new.desks.items) (sym c.mark_all.ensures.marks.only.seen) c.mark_all.ensures.desks
