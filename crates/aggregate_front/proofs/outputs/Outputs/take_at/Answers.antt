use Rattle.std.proofs.Common.{◌∙◌, refl, sym}
use Rattle.aggregate_front.proofs.HeldLemmas.{took, took_not}
use Rattle.aggregate_front.proofs.outputs.Outputs.take_at.Goals as goal

pub returns-then-not-has_room_at-clause-ok : goal.returns-then-not-has_room_at-clause-ok
returns-then-not-has_room_at-clause-ok c =
    (took_not c.args.self.now c.args.hit.now c.args.point c.args.place c.args.start c.requires.there c.requires.start c.requires.moment (sym c.has_room_at.ensures ∙ c.if-not-has_room_at.true), refl)

pub returns-in-Ok-clause-ok : goal.returns-in-Ok-clause-ok
returns-in-Ok-clause-ok c = (
  took c.args.self.now c.change.new.self c.args.hit.now c.args.point c.args.place c.args.start c.in_ok-change.change _ c.requires.there c.requires.start c.requires.moment
      (sym c.has_room_at.ensures ∙ c.if-not-has_room_at.false) c.in_ok-change.ensures.ok c.in-Ok.ensures,
  c.in_ok-change.ensures.ok.did,
)
