use Rattle.std.proofs.Common.{◌∙◌, refl, sym}
use Rattle.std.proofs.lemmas.Bool.{and_parts, ltb-true}
use Rattle.aggregate_front.specs.Emitting.{Held, opening}
use Rattle.aggregate_front.proofs.HeldLemmas.{keeps_own, is_taken_new, makes, passed_at}
use Rattle.aggregate_front.proofs.outputs.Outputs.make.Goals as goal

pub returns-then-not-has_room-clause-ok : goal.returns-then-not-has_room-clause-ok
returns-then-not-has_room-clause-ok c =
    let held = c.args.self.now in
    let none = is_taken_new held.limits held.outputs c.args.hit.now c.args.start c.requires.moment c.requires.absent ∙ sym c.has_room.ensures ∙ c.if-not-has_room.true in
    (passed_at held.limits c.args.point (opening held.outputs) c.args.hit.now c.args.start c.requires.start none, refl)

pub invariant_of-self-2 : goal.invariant_of-self-2
invariant_of-self-2 c =
    let old : Held = record { limits = c.self.inside.limits; outputs = c.self.inside.entries.entries } in
    let room = and_parts _ _ (rw (sym c.self.view_is) at (sym c.has_room.ensures ∙ c.if-not-has_room.false)) in
    let absent = rw (sym c.self.view_is) at c.requires.absent in
    let change = rw (c.new-gathered.ensures, c.method.ensures) at c.in_ok-take.ensures.change in
    let entries = rw (c.in_ok-copy.ensures, c.key.ensures) at c.in_ok-insert.ensures.entries in
    let m = makes old c.args.hit.now c.args.point c.args.start c.len-place.result c.take.new.self c.in_ok-take.field-0 (keeps_own _ _ _ c.self.invariant)
    c.requires.start c.requires.moment absent (ltb-true _ _ room.0) (ltb-true _ _ room.1) change in
    rw (entries, c.self.invariant.count) m.kept

pub returns-clause-ok : goal.returns-clause-ok
returns-clause-ok c =
    let old : Held = record { limits = c.self.inside.limits; outputs = c.self.inside.entries.entries } in
    let room = and_parts _ _ (rw (sym c.self.view_is) at (sym c.has_room.ensures ∙ c.if-not-has_room.false)) in
    let absent = rw (sym c.self.view_is) at c.requires.absent in
    let change = rw (c.new-gathered.ensures, c.method.ensures) at c.in_ok-take.ensures.change in
    let entries = rw (c.in_ok-copy.ensures, c.key.ensures) at c.in_ok-insert.ensures.entries in
    let m = makes old c.args.hit.now c.args.point c.args.start c.len-place.result c.take.new.self c.in_ok-take.field-0 (keeps_own _ _ _ c.self.invariant)
    c.requires.start c.requires.moment absent (ltb-true _ _ room.0) (ltb-true _ _ room.1) change in
    rw (sym c.self.view_is, entries) (m.fed, m.did)
