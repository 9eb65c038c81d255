use Rattle.std.proofs.Common.{List, sym, subst, ◌∙◌}
use Rattle.carbon_history.specs.declared.entry.Entry.{Entry}
use Rattle.shared_store.specs.Asking.{AreDesksOf}
use Rattle.shared_store.proofs.store.Store.see_behind.Goals as goal

pub returns-clause-desks : goal.returns-clause-desks
returns-clause-desks g c =
    subst (λ (l : List Entry). AreDesksOf l c.agree_all.new.desks.items) (sym (c.see_all.ensures.seen ∙ c.agree_all.ensures.order)) c.agree_all.ensures.desks
