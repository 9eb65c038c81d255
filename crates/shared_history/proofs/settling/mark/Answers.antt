use Rattle.std.proofs.Common.{rules, ℕ, ap, ◌∙◌, sym, subst, [], None}
use mathlib.Core.Option.{none}
use Rattle.atomic_table.specs.Table.{Me, Allows, step}
use Rattle.carbon_history.specs.declared.entry.Entry.{Entry}
use Rattle.shared_history.specs.declared.view.View.{View}
use Rattle.shared_history.specs.Views.{own, branch_of, grafted}
use Rattle.shared_history.specs.Parts.{mine_of, looks_of, sights_of, list_of, settled_of, runs_of}
use Rattle.shared_history.specs.Plays.{Marks}
use Rattle.shared_history.specs.Rule.{Kept}
use Rattle.shared_history.proofs.LookLemmas.{marks}
use Rattle.shared_history.proofs.settling.mark.Goals as goal

pub load-requires : goal.load-requires
load-requires c =
    let p = c.pass.inside in
    let t = c.tail.inside in
    let b = t.seat.me.0.branch in
    let slots : ℕ = c.deref-board.result.now.shared.table_id.slots in
    let e1 = c.prune-right.ensures.right.1 ∙ ap (λ (m : Me Entry View). (branch_of m.0, [])) c.tail.invariant.2 in
    let e2 = c.graft.ensures.1 ∙ (λ i. (grafted (c.pass.invariant.2 i).0 (e1 i).0, (c.pass.invariant.2 i).1)) in (
      search rules,
      search rules,
      subst (λ (m : Me Entry View). Allows Kept slots c.graft.new.seat.id m 0 (λ n. n) (Marks (step slots 0 0 0 none) m)) (sym e2)
          (marks slots c.graft.new.seat.id p.seat.me.0.seen [] (own p.number (mine_of p.seat.me.0.own) (looks_of p.seat.me.0.own) (sights_of p.seat.me.0.own)) None t.class (list_of b) (settled_of b) (runs_of b)),
    )
