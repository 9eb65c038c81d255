use Rattle.std.proofs.Common.{◌∙◌, refl, sym}
use Rattle.indexmap.proofs.MapLemmas.{Missing-position}
use Rattle.aggregate_front.specs.Emitting.{is_key, opening}
use Rattle.aggregate_front.proofs.HeldLemmas.{is_taken_never, passed_at}
use Rattle.aggregate_front.proofs.outputs.Outputs.take.Goals as goal

pub returns-then-not-is_moment-clause-ok : goal.returns-then-not-is_moment-clause-ok
returns-then-not-is_moment-clause-ok c =
    let held = c.args.self.now in
    let never = is_taken_never held.limits held.outputs c.args.hit.now c.interval_of-start.result (sym c.is_moment.ensures ∙ c.if-not-is_moment.true) in
    (passed_at held.limits c.args.point (opening held.outputs) c.args.hit.now c.interval_of-start.result c.interval_of-start.ensures never, refl)

pub make-requires-clause-absent : goal.make-requires-clause-absent
make-requires-clause-absent c = (Missing-position (is_key c.args.hit.now.key) c.args.self.now.outputs (sym c.place_of.ensures ∙ c.in-None.is)).value
