use Rattle.std.proofs.Common.{◌∙◌, sym}
use Rattle.std.proofs.lemmas.Bool.{true≢false}
use Rattle.ring_format.proofs.CellOrder.{found_at, none_found, passed_by}
use Rattle.ring_format.proofs.patch.cell_in.Goals as goal

pub returns-in_err-found : goal.returns-in_err-found
returns-in_err-found c = rw c.from_residual.ensures (sym (none_found c.args.cells.now (c.args.archive, c.args.slot) (sym c.in_err-found.ensures)))

pub returns-then-stands_at : goal.returns-then-stands_at
returns-then-stands_at c = sym (found_at c.args.cells.now (c.args.archive, c.args.slot) c.in_ok-found.found (sym c.in_ok-found.ensures) (c.stands_at.ensures.0 c.if-stands_at.true))

pub returns : goal.returns
returns c =
    sym (passed_by c.args.cells.now (c.args.archive, c.args.slot) c.in_ok-found.found c.requires (sym c.in_ok-found.ensures)
    (λ same. true≢false (sym (c.stands_at.ensures.1 same) ∙ c.if-stands_at.false)))
