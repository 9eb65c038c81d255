use Rattle.std.proofs.Common.{◌∙◌, sym}
use Rattle.ring_archive.proofs.StaleLemmas.{all_held_ok}
use Rattle.ring_archive.proofs.stale.laid_slots.Goals as goal

pub returns : goal.returns
returns c = all_held_ok _ c.args.round c.args.bytes.now _ (sym c.has_cells.ensures ∙ c.if-has_cells.false) c.held_slots.ensures
