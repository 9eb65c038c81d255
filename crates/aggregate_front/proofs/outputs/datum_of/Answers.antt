use Rattle.std.proofs.Common.{◌∙◌, refl, sym}
use Rattle.aggregate_front.specs.Emitting.{point_of}
use Rattle.aggregate_front.proofs.outputs.datum_of.Goals as goal

pub returns-in_default : goal.returns-in_default
unfolding point_of
returns-in_default c = rw (sym c.in_ok-value.ensures ∙ c.in_default.is) refl

pub returns : goal.returns
unfolding point_of
returns c = rw (sym c.in_ok-value.ensures ∙ c.in-Some.is, c.in_ok-copy.ensures) refl
