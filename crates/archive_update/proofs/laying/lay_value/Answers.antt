use Rattle.std.proofs.Common.{inl, inr, refl, sym}
use Rattle.archive_update.proofs.LayLemmas.{lays_value, step_there}
use Rattle.archive_update.proofs.laying.lay_value.Goals as goal

pub returns-then-slot-eq0-clause-lays : goal.returns-then-slot-eq0-clause-lays
returns-then-slot-eq0-clause-lays c =
    let laid = c.in_ok-lay_cell.ensures.laid in
    lays_value c.args.patch.now c.lay_cell.new.patch c.args.archive c.args.base c.args.bucket c.slot_of-slot.result c.args.bucket c.args.value c.args.ring c.requires.ring.there c.requires.archive c.requires.ring.step c.requires.ring.points
    (step_there c.args.patch.now.layout.archives c.args.archive c.args.bucket c.args.ring c.requires.ring.there c.requires.bucket) (sym c.slot_of-slot.ensures.value) laid (inl (c.if-slot-eq0.true, refl))

pub returns-clause-lays : goal.returns-clause-lays
returns-clause-lays c =
    let laid = c.in_ok-lay_cell.ensures.laid in
    lays_value c.args.patch.now c.lay_cell.new.patch c.args.archive c.args.base c.args.bucket c.slot_of-slot.result c.args.base c.args.value c.args.ring c.requires.ring.there c.requires.archive c.requires.ring.step c.requires.ring.points
    (step_there c.args.patch.now.layout.archives c.args.archive c.args.bucket c.args.ring c.requires.ring.there c.requires.bucket) (sym c.slot_of-slot.ensures.value) laid (inr (c.if-slot-eq0.false, refl))
