use Rattle.std.proofs.Common.{rules, ℕ, ap, ◌∙◌, sym, subst, [], None, Some}
use mathlib.Core.Option.{none}
use Rattle.atomic_table.specs.Table.{Me, Allows, step}
use Rattle.carbon_history.specs.declared.entry.Entry.{Entry}
use Rattle.shared_history.specs.declared.view.View.{View}
use Rattle.shared_history.specs.Views.{own, lead, lead_of, led, all_of}
use Rattle.shared_history.specs.Parts.{mine_of, looks_of, sights_of}
use Rattle.shared_history.specs.Plays.{Sees}
use Rattle.shared_history.specs.Rule.{Kept}
use Rattle.shared_history.proofs.LookLemmas.{sees}
use Rattle.shared_history.proofs.seeing.see.Goals as goal

pub load-requires : goal.load-requires
load-requires c =
    let o = c.order.inside in
    let p = c.pass.inside in
    let slots : ℕ = c.deref-board.result.now.shared.table_id.slots in
    let e1 = c.lend-right.ensures.right.1 ∙ ap (λ (m : Me Entry View). (lead_of m.0, [])) c.order.invariant.2 in
    let e2 = c.take.ensures.1 ∙ (λ i. (led (c.pass.invariant.2 i).0 (e1 i).0, (c.pass.invariant.2 i).1)) in (
      search rules,
      search rules,
      subst (λ (m : Me Entry View). Allows Kept slots c.take.new.seat.id m 0 (λ n. n) (Sees (step slots 0 0 0 none) m)) (sym e2)
          (sees slots c.take.new.seat.id p.seat.me.0.seen [] (Some (own p.number (mine_of p.seat.me.0.own) (looks_of p.seat.me.0.own) (sights_of p.seat.me.0.own)))
          (lead (all_of o.seat.me.0.lead) o.passes o.classes None) None),
    )
