use Rattle.std.proofs.Common.{◌∙◌, sym, subst}
use Rattle.shared_history.specs.Parts.{AllSeen, OrderValue}
use Rattle.shared_history.proofs.closing.close.Goals as goal

pub returns-clause-seen : goal.returns-clause-seen
returns-clause-seen c =
    subst (λ (o : OrderValue). AllSeen o.list c.args.passes.items) (sym (c.agree_all.ensures.order ∙ c.see_all.ensures.order)) c.see_all.ensures.seen
