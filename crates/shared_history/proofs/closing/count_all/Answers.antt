use Rattle.std.proofs.Common.{rules, ℕ, sym, subst, [], None}
use mathlib.Core.Option.{none}
use Rattle.atomic_table.specs.Table.{Me, Allows, step}
use Rattle.carbon_history.specs.declared.entry.Entry.{Entry}
use Rattle.shared_history.specs.declared.view.View.{View}
use Rattle.shared_history.specs.Views.{all_of, lead}
use Rattle.shared_history.specs.Plays.{Closes}
use Rattle.shared_history.specs.Rule.{Kept}
use Rattle.shared_history.proofs.LookLemmas.{closes}
use Rattle.shared_history.proofs.closing.count_all.Goals as goal

pub load-requires : goal.load-requires
load-requires c =
    let o = c.order.inside in
    let slots : ℕ = c.deref-board.result.now.shared.table_id.slots in (
      search rules,
      search rules,
      subst (λ (m : Me Entry View). Allows Kept slots o.seat.id m 0 (λ n. n) (Closes (step slots 0 0 0 none) m)) (sym c.order.invariant.2)
          (closes slots o.seat.id [] [] None (lead (all_of o.seat.me.0.lead) o.passes o.classes None) None),
    )
