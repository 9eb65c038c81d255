use Rattle.std.proofs.Common.{rules, ◌≡◌, ℕ, ◌<◌, ◌+◌, ◌%◌, ◌^◌, ap, ◌∙◌, sym, subst, [], None, Some, List, ◌∷◌, ◌++◌, add-one, length, true}
use mathlib.Core.Option.{none}
use Rattle.atomic_table.specs.Table.{Me, Allows, step}
use Rattle.carbon_history.specs.declared.entry.Entry.{Entry}
use Rattle.shared_history.specs.declared.view.View.{View}
use Rattle.shared_history.specs.Views.{view, own, lead, branch, lead_of, led, branch_of, grafted, awaiting, all_of}
use Rattle.carbon_history.specs.Entries.{ask_number, pass_of, is_about, drains}
use Rattle.shared_history.specs.Parts.{PassValue, TailValue, mine_of, looks_of, sights_of, list_of, own_entries, settled_of, runs_of}
use Rattle.shared_history.specs.Events.{MayEnter}
use Rattle.shared_history.specs.Plays.{Awaits, Enters}
use Rattle.shared_history.specs.Rule.{Kept}
use Rattle.shared_history.proofs.GrowthLemmas.{InTurn, awaits, class_counts, enters}
use Rattle.shared_history.proofs.EventLemmas.{entry_asks, entry_pass, few_asks, left_less, no_ask}
use Rattle.shared_history.proofs.entering.enter_named.Goals as goal
use Rattle.shared_history.proofs.entering.enter_named.Goals.{After-graft}
use Rattle.shared_history.proofs.entering.enter_named.Given.{Over}

-- the view with both rights, before the entry
abbrev both : (g : Over) → After-graft g → View
both g c =
    let p = c.pass.inside in
    let o = c.order.inside in
    let t = c.tail.inside in
    view p.seat.me.0.seen [] (Some (own p.number (mine_of p.seat.me.0.own) (looks_of p.seat.me.0.own) (sights_of p.seat.me.0.own)))
    (Some (lead (all_of o.seat.me.0.lead) o.passes o.classes None))
    (Some (branch t.class (list_of t.seat.me.0.branch) (settled_of t.seat.me.0.branch) (runs_of t.seat.me.0.branch)))

both_is : (g : Over) (c : After-graft g) → ◌≡◌ {A = Me Entry View} c.graft.new.seat.me (both g c, [])
both_is g c =
    let e1 = c.lend-right.ensures.right.1 ∙ ap (λ (m : Me Entry View). (lead_of m.0, [])) c.order.invariant.2 in
    let e2 = c.take.ensures.1 ∙ (λ i. (led (c.pass.invariant.2 i).0 (e1 i).0, (c.pass.invariant.2 i).1)) in
    let e3 = c.prune-right.ensures.right.1 ∙ ap (λ (m : Me Entry View). (branch_of m.0, [])) c.tail.invariant.2 in
    c.graft.ensures.1 ∙ (λ i. (grafted (e2 i).0 (e3 i).0, (e2 i).1))

-- what the entry needs, of the parts as they are inside
number_is : (g : Over) (c : After-graft g) → pass_of g.E.Named.entry ≡ c.pass.inside.number
number_is g c =
    ap pass_of (sym c.requires.may.0)
    ∙ (entry_pass c.args.pass.now.number c.args.tail.now.class c.args.event.now ∙ sym (ap (λ (x : PassValue). x.number) c.pass.view_is))

about : (g : Over) (c : After-graft g) → is_about c.tail.inside.class g.E.Named.entry ≡ true
about g c = ap (λ (x : TailValue). is_about x.class g.E.Named.entry) c.tail.view_is ∙ c.requires.may.1.about

room : (g : Over) (c : After-graft g) → length (mine_of c.pass.inside.seat.me.0.own) < 2 ^ 48
room g c =
    let may : MayEnter c.args.pass.now c.args.tail.now g.E.Named.entry = c.requires.may.1 in
    subst (λ (xs : List Entry). length xs < 2 ^ 48) (sym (ap own_entries c.pass.view_is) ∙ c.pass.invariant.3) may.room

turn : (g : Over) (c : After-graft g) → InTurn (both g c).branch g.E.Named.entry
turn g c drain =
    ap (λ (x : TailValue). drains x.list) c.tail.view_is
    ∙ (c.requires.may.1.settled drain ∙ sym (ap (λ (x : TailValue). x.settled) c.tail.view_is))

pub fetch_add-requires : goal.fetch_add-requires
fetch_add-requires g c =
    let slots : ℕ = c.deref-board.result.now.shared.table_id.slots in
    let after = (goal.at.fetch_add-requires g c).After-graft in
    let v = both g after in
    let p = c.pass.inside in
    let o = c.order.inside in
    let me = own p.number (mine_of p.seat.me.0.own) (looks_of p.seat.me.0.own) (sights_of p.seat.me.0.own) in (
      search rules,
      search rules,
      subst (λ (m : Me Entry View). Allows Kept slots c.graft.new.seat.id m 0 (λ n. (n + 1) % 2 ^ 64) (Awaits g.E.Named.entry (step slots 0 1 0 none) m)) (sym (both_is g after))
          (awaits slots c.graft.new.seat.id p.seat.me.0.seen [] me (all_of o.seat.me.0.lead) o.passes o.classes v.branch g.E.Named.entry
          (number_is g after) (room g after) (about g after) (turn g after)),
    )

pub fetch_add-requires-2 : goal.fetch_add-requires-2
fetch_add-requires-2 g c =
    let slots : ℕ = c.deref-board.result.now.shared.table_id.slots in
    let after = (goal.at.fetch_add-requires-2 g c).After-graft in
    let v = both g after in
    let p = c.pass.inside in
    let o = c.order.inside in
    let t = c.tail.inside in
    let e : Entry = g.E.Named.entry in
    let me = own p.number (mine_of p.seat.me.0.own) (looks_of p.seat.me.0.own) (sights_of p.seat.me.0.own) in
    let now : ◌≡◌ {A = Me Entry View} c.fetch_add.new.seat.me (awaiting e v, []) =
    c.fetch_add.ensures.2 ∙ ap (λ (m : Me Entry View). (awaiting e m.0, m.1)) (both_is g after) in (
      search rules,
      search rules,
      subst (λ (m : Me Entry View). Allows Kept slots c.fetch_add.new.seat.id m (t.class + 1) (λ n. (n + 1) % 2 ^ 64) (Enters e (step slots (t.class + 1) 1 0 none) m)) (sym now)
          (enters slots c.fetch_add.new.seat.id (t.class + 1) p.seat.me.0.seen [] (all_of o.seat.me.0.lead) me o.passes o.classes (Some e) e v.branch
          (number_is g after) (room g after) (about g after) (turn g after) (class_counts e t.class (t.class + 1) (add-one t.class) (about g after))),
    )

pub invariant_of-pass : goal.invariant_of-pass
invariant_of-pass g c =
    let after = (goal.at.invariant_of-pass g c).After-graft in
    let mine = mine_of c.pass.inside.seat.me.0.own in
    let mine' = mine_of c.lend-right-2.new.seat.me.0.own in
    let e : Entry = g.E.Named.entry in
    let longer : mine' ≡ mine ++ e ∷ [] = search rules in
    let none : ask_number e ≡ 0 = ap ask_number (sym c.requires.may.0) ∙ entry_asks c.args.pass.now.number c.args.tail.now.class c.args.event.now in (
      search rules,
      search rules,
      search rules,
      search rules,
      left_less mine mine' e longer c.pass.inside.left (room g after) c.pass.invariant.4,
      no_ask mine mine' e longer c.pass.inside.asks none c.pass.invariant.5,
      few_asks mine mine' e longer c.pass.inside.asks c.pass.invariant.6,
    )
