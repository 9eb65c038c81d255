use Rattle.std.proofs.Common.{inl, inr, rules}
use Rattle.write_shelf.specs.Shelf.{AreLaid}
use Rattle.write_shelf.proofs.BytesLemmas.{cells_stand, head_stands, nothing_stands}
use Rattle.write_shelf.proofs.run_bytes.place_of.Goals as goal

pub returns-in-Cells : goal.returns-in-Cells
returns-in-Cells c =
    let laid : AreLaid c.args.patch.now c.in-Cells.archive c.in-Cells.slot c.in-Cells.count = rw c.in-Cells.is at c.requires in
    rw (c.in-Cells.is, c.from.ensures, c.from-in-Cells.ensures)
    (cells_stand c.args.patch.now c.in-Cells.archive c.in-Cells.slot c.in-Cells.count c.offset.result laid (search rules) (search rules))

pub returns-in-Create : goal.returns-in-Create
returns-in-Create c = elim c.in-Create.is [
  | inl create ↦ rw create.1 (nothing_stands c.args.patch.now create.0)
  | inr head ↦ rw head (head_stands c.args.patch.now)
]
