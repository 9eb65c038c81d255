use Rattle.std.proofs.Common.{rules, ℕ, ap, ◌∙◌, sym, subst, [], None}
use mathlib.Core.Option.{none}
use Rattle.atomic_table.specs.Table.{Me, Allows, step}
use Rattle.carbon_history.specs.declared.entry.Entry.{Entry}
use Rattle.shared_history.specs.declared.view.View.{View}
use Rattle.shared_history.specs.Views.{lead, branch_of, grafted, all_of}
use Rattle.shared_history.specs.Parts.{list_of, settled_of, runs_of}
use Rattle.shared_history.specs.Plays.{Agrees}
use Rattle.shared_history.specs.Rule.{Kept}
use Rattle.shared_history.proofs.LookLemmas.{agrees}
use Rattle.shared_history.proofs.seeing.agree.Goals as goal

pub load-requires : goal.load-requires
load-requires c =
    let o = c.order.inside in
    let t = c.tail.inside in
    let b = t.seat.me.0.branch in
    let slots : ℕ = c.deref-board.result.now.shared.table_id.slots in
    let e1 = c.prune-right.ensures.right.1 ∙ ap (λ (m : Me Entry View). (branch_of m.0, [])) c.tail.invariant.2 in
    let e2 = c.graft.ensures.1 ∙ (λ i. (grafted (c.order.invariant.2 i).0 (e1 i).0, (c.order.invariant.2 i).1)) in (
      search rules,
      search rules,
      subst (λ (m : Me Entry View). Allows Kept slots c.graft.new.seat.id m 0 (λ n. n) (Agrees (step slots 0 0 0 none) m)) (sym e2)
          (agrees slots c.graft.new.seat.id [] [] None (lead (all_of o.seat.me.0.lead) o.passes o.classes None) t.class (list_of b) (settled_of b) (runs_of b)),
    )
