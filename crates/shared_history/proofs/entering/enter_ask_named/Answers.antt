use Rattle.std.proofs.Common.{rules, ◌≡◌, ℕ, ◌<◌, ◌+◌, ◌%◌, ◌^◌, ap, ◌∙◌, sym, subst, [], ◌∷◌, ◌++◌, None, Some, List, length, false}
use mathlib.Core.Option.{none}
use Rattle.atomic_table.specs.Table.{Me, Allows, step}
use Rattle.carbon_history.specs.declared.entry.Entry.{Entry}
use Rattle.shared_history.specs.declared.view.View.{View}
use Rattle.shared_history.specs.Views.{view, own, lead, lead_of, led, all_of}
use Rattle.carbon_history.specs.Entries.{ask_number, pass_of, is_about}
use Rattle.shared_history.specs.Events.{MayAsk}
use Rattle.shared_history.specs.Parts.{PassValue, greatest_ask, mine_of, looks_of, own_entries, sights_of}
use Rattle.shared_history.specs.Plays.{Enters}
use Rattle.shared_history.specs.Rule.{Kept}
use Rattle.shared_history.proofs.GrowthLemmas.{ask_counts, enters}
use Rattle.shared_history.proofs.EventLemmas.{few_asks, few_with_one, first_number, further_number, left_less, next_ask, same_ask}
use Rattle.shared_history.proofs.entering.enter_ask_named.Goals as goal
use Rattle.shared_history.proofs.entering.enter_ask_named.Goals.{After-take}
use Rattle.shared_history.proofs.entering.enter_ask_named.Given.{Over}

-- the view with the right to append, before the entry
abbrev with_lead : (g : Over) → After-take g → View
with_lead g c =
    let p = c.pass.inside in
    let o = c.order.inside in
    view p.seat.me.0.seen [] (Some (own p.number (mine_of p.seat.me.0.own) (looks_of p.seat.me.0.own) (sights_of p.seat.me.0.own)))
    (Some (lead (all_of o.seat.me.0.lead) o.passes o.classes None)) None

lead_is : (g : Over) (c : After-take g) → ◌≡◌ {A = Me Entry View} c.take.new.seat.me (with_lead g c, [])
lead_is g c =
    let e1 = c.lend-right.ensures.right.1 ∙ ap (λ (m : Me Entry View). (lead_of m.0, [])) c.order.invariant.2 in
    c.take.ensures.1 ∙ (λ i. (led (c.pass.invariant.2 i).0 (e1 i).0, (c.pass.invariant.2 i).1))

-- what the entry needs, of the parts as they are inside
mine_is : (g : Over) (c : After-take g) → own_entries c.args.pass.now ≡ mine_of c.pass.inside.seat.me.0.own
mine_is g c = sym (ap own_entries c.pass.view_is) ∙ c.pass.invariant.3

room : (g : Over) (c : After-take g) → length (mine_of c.pass.inside.seat.me.0.own) < 2 ^ 48
room g c =
    let may : MayAsk c.args.pass.now c.args.attempt = c.requires.may in
    subst (λ (xs : List Entry). length xs < 2 ^ 48) (mine_is g c) may.room

pub fetch_add-requires : goal.fetch_add-requires
fetch_add-requires g c =
    let slots : ℕ = c.deref-board.result.now.shared.table_id.slots in
    let after = (goal.at.fetch_add-requires g c).After-take in
    let p = c.pass.inside in
    let o = c.order.inside in
    let e : Entry = g.E.Named.entry in
    let me = own p.number (mine_of p.seat.me.0.own) (looks_of p.seat.me.0.own) (sights_of p.seat.me.0.own) in
    let number : pass_of e ≡ p.number = ap pass_of (sym c.requires.named) ∙ sym (ap (λ (x : PassValue). x.number) c.pass.view_is) in
    let none_of : (k : ℕ) → is_about k e ≡ false = λ k. ap (is_about k) (sym c.requires.named) in (
      search rules,
      search rules,
      subst (λ (m : Me Entry View). Allows Kept slots c.take.new.seat.id m 0 (λ n. (n + 1) % 2 ^ 64) (Enters e (step slots 0 1 0 none) m)) (sym (lead_is g after))
          (enters slots c.take.new.seat.id 0 p.seat.me.0.seen [] (all_of o.seat.me.0.lead) me o.passes o.classes None e None number (room g after) none_of tt (ask_counts e none_of)),
    )

pub invariant_of-pass : goal.invariant_of-pass
invariant_of-pass g c =
    let after = (goal.at.invariant_of-pass g c).After-take in
    let mine = mine_of c.pass.inside.seat.me.0.own in
    let mine' = mine_of c.lend-right-2.new.seat.me.0.own in
    let e : Entry = g.E.Named.entry in
    let longer : mine' ≡ mine ++ e ∷ [] = search rules in
    let number : ask_number e ≡ greatest_ask mine + 1 =
    ap ask_number (sym c.requires.named)
    ∙ (first_number c.args.attempt (greatest_ask (own_entries c.args.pass.now)) c.if-attempt-eq1.true
    ∙ ap (λ (xs : List Entry). greatest_ask xs + 1) (mine_is g after)) in (
      search rules,
      search rules,
      search rules,
      search rules,
      left_less mine mine' e longer c.pass.inside.left (room g after) c.pass.invariant.4,
      next_ask mine mine' e longer c.pass.inside.asks number c.pass.invariant.5,
      few_with_one mine mine' e longer c.pass.inside.asks c.pass.invariant.6,
    )

pub invariant_of-pass-else-attempt-eq1 : goal.invariant_of-pass-else-attempt-eq1
invariant_of-pass-else-attempt-eq1 g c =
    let after = (goal.at.invariant_of-pass-else-attempt-eq1 g c).After-take in
    let mine = mine_of c.pass.inside.seat.me.0.own in
    let mine' = mine_of c.lend-right-2.new.seat.me.0.own in
    let e : Entry = g.E.Named.entry in
    let longer : mine' ≡ mine ++ e ∷ [] = search rules in
    let number : ask_number e ≡ greatest_ask mine =
    ap ask_number (sym c.requires.named)
    ∙ (further_number c.args.attempt (greatest_ask (own_entries c.args.pass.now)) c.if-attempt-eq1.false
    ∙ ap greatest_ask (mine_is g after)) in (
      search rules,
      search rules,
      search rules,
      search rules,
      left_less mine mine' e longer c.pass.inside.left (room g after) c.pass.invariant.4,
      same_ask mine mine' e longer c.pass.inside.asks number c.pass.invariant.5,
      few_asks mine mine' e longer c.pass.inside.asks c.pass.invariant.6,
    )
