use Rattle.std.proofs.Common.{◌∙◌, sym}
use Rattle.aggregate_front.proofs.GatheredLemmas.{if_ok_more, join_changes, open_changes}
use Rattle.aggregate_front.proofs.gathered.Gathered.take.Goals as goal

pub returns-then-is_at-clause-change : goal.returns-then-is_at-clause-change
returns-then-is_at-clause-change c =
    let here = rw c.place_of-at.ensures.place at (sym c.is_at.ensures ∙ c.if-is_at.true) in
    rw (c.in_ok-join.ensures.ok, c.place_of-at.ensures.place) (join_changes c.args.self.now c.args.start c.args.point c.requires.sound here)

pub returns-clause-change : goal.returns-clause-change
returns-clause-change c =
    let none = rw c.place_of-at.ensures.place at (sym c.is_at.ensures ∙ c.if-is_at.false) in
    let opens = rw (c.place_of-at.ensures.place, c.in_ok-points.ensures) at c.open_interval.ensures.opens in
    if_ok_more c.open_interval.result _ _ opens (λ change done. open_changes c.args.self.now c.open_interval.new.self c.args.start c.args.point change c.requires.sound none done)
