use Rattle.std.proofs.Common.{IfSome, subst}
use Rattle.ring_format.specs.Patch.{IsPlace, PatchValue}
use Rattle.ring_format.proofs.PatchLemmas.{each_found}
use Rattle.ring_format.proofs.patch.Patch.first_cell_from.Goals as goal

pub returns-clause-placed : goal.returns-clause-placed
returns-clause-placed c =
    subst (λ (patch : PatchValue). IfSome c.first_from.result (λ cell. IsPlace patch.layout cell.0)) c.self.view_is
    (each_found c.self.inside.layout c.self.inside.cells.items (c.args.archive, c.args.slot) c.first_from.result c.self.invariant.1 (rw c.deref.ensures.value at c.first_from.ensures))
