use Rattle.std.proofs.Common.{rules, ℕ, ap, ◌∙◌, sym, subst, []}
use mathlib.Core.Option.{none}
use Rattle.atomic_table.specs.Table.{Me, Allows, step}
use Rattle.class_halves.specs.declared.view.View.{View}
use Rattle.class_halves.specs.Views.{Renews, files_of, met, stand_in}
use Rattle.class_halves.specs.Rule.{Kept}
use Rattle.class_halves.proofs.HalfLemmas.{renews}
use Rattle.class_halves.proofs.half.renew_named.Goals as goal

pub load-requires : goal.load-requires
load-requires g c =
    let d = c.desk.inside in
    let f = c.files.inside in
    let slots : ℕ = c.deref-board.result.now.shared.table_id.slots in
    let e1 = c.pull-right.ensures.right.1 ∙ ap (λ (m : Me ℕ View). (files_of m.0, [])) c.files.invariant.2 in
    let e2 = c.push.ensures.1 ∙ (λ i. (met (c.desk.invariant.2 i).0 (e1 i).0, (c.desk.invariant.2 i).1)) in (
      search rules,
      search rules,
      subst (λ (m : Me ℕ View). Allows Kept slots c.push.new.seat.id m 0 (λ n. n) (Renews g.E.NamedStand.stand (step slots 0 0 0 none) m)) (sym e2)
          (renews slots c.push.new.seat.id (stand_in d.seat.me.0.desk) (stand_in f.seat.me.0.files) g.E.NamedStand.stand),
    )
