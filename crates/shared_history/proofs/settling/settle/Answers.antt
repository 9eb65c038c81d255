use Rattle.std.proofs.Common.{rules, ℕ, sym, subst, [], None}
use mathlib.Core.Option.{none}
use Rattle.atomic_table.specs.Table.{Me, Allows, step}
use Rattle.carbon_history.specs.declared.entry.Entry.{Entry}
use Rattle.shared_history.specs.declared.view.View.{View}
use Rattle.shared_history.specs.Parts.{list_of, settled_of, runs_of}
use Rattle.shared_history.specs.Plays.{Settles}
use Rattle.shared_history.specs.Rule.{Kept}
use Rattle.shared_history.proofs.LookLemmas.{settles}
use Rattle.shared_history.proofs.settling.settle.Goals as goal

pub load-requires : goal.load-requires
load-requires c =
    let t = c.tail.inside in
    let b = t.seat.me.0.branch in
    let slots : ℕ = c.deref-board.result.now.shared.table_id.slots in (
      search rules,
      search rules,
      subst (λ (m : Me Entry View). Allows Kept slots t.seat.id m 0 (λ n. n) (Settles (step slots 0 0 0 none) m)) (sym c.tail.invariant.2)
          (settles slots t.seat.id [] [] None None t.class (list_of b) (settled_of b) (runs_of b) (search rules)),
    )
