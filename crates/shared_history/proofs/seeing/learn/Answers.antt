use Rattle.std.proofs.Common.{ap, rules, ℕ, ◌∙◌, sym, subst}
use mathlib.Core.Option.{none}
use Rattle.atomic_table.specs.Table.{Me, Allows, step}
use Rattle.carbon_history.specs.declared.entry.Entry.{Entry}
use Rattle.shared_history.specs.declared.view.View.{View}
use Rattle.shared_history.specs.Views.{hearing}
use Rattle.shared_history.specs.Parts.{pass_view, mine_of, looks_of, sights_of}
use Rattle.shared_history.specs.Plays.{Learns}
use Rattle.shared_history.specs.Rule.{Kept}
use Rattle.shared_history.proofs.RightLemmas.{hears}
use Rattle.shared_history.proofs.LookLemmas.{learns}
use Rattle.shared_history.proofs.seeing.learn.Goals as goal

pub join_seat-requires : goal.join_seat-requires
join_seat-requires c = (
  search rules,
  search rules,
  search rules,
  search rules,
  hears c.pass.inside.seat.id c.pass.inside.seat.me.0 c.note.inside.seat.id c.note.inside.seat.me.0
      (ap (λ (m : Me Entry View). m.0.own) c.note.invariant) (ap (λ (m : Me Entry View). m.0.lead) c.note.invariant) (ap (λ (m : Me Entry View). m.0.branch) c.note.invariant),
)

pub load-requires : goal.load-requires
load-requires c =
    let p = c.pass.inside in
    let slots : ℕ = c.deref-board.result.now.shared.table_id.slots in
    let now = c.join_seat.ensures.2 ∙ (λ i. (hearing (c.pass.invariant.2 i).0 c.note.inside.seat.me.0, (c.pass.invariant.2 i).1)) in
    let v : View = hearing (pass_view p.seat.me.0.seen p.number (mine_of p.seat.me.0.own) (looks_of p.seat.me.0.own) (sights_of p.seat.me.0.own)) c.note.inside.seat.me.0 in
    (search rules, search rules, subst (λ (m : Me Entry View). Allows Kept slots c.join_seat.new.seat.id m 0 (λ n. n) (Learns (step slots 0 0 0 none) m)) (sym now) (learns slots c.join_seat.new.seat.id v))
