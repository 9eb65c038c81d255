use Rattle.std.proofs.Common.{◌≡◌, ◌≢◌, ℕ, OnOk, subst, sym}
use Rattle.ring_format.specs.Patch.{IsPlace, PatchValue, cell_at}
use Rattle.ring_format.proofs.CellOrder.{laid_others, laid_there}
use Rattle.ring_format.proofs.PatchLemmas.{keep_places}
use Rattle.ring_format.proofs.patch.Patch.lay.Goals as goal

pub invariant_of-self : goal.invariant_of-self
invariant_of-self c = (
  c.put_cell.ensures.rise,
  keep_places c.self.inside.layout c.self.inside.cells.items c.put_cell.new.cells.items (c.args.cell.archive, c.args.cell.slot) _ c.put_cell.result c.put_cell.ensures.ok c.put_cell.ensures.err c.self.invariant.1
      (subst (λ (patch : PatchValue). IsPlace patch.layout (c.args.cell.archive, c.args.cell.slot)) (sym c.self.view_is) c.requires),
)

pub returns-clause-here : goal.returns-clause-here
returns-clause-here c =
    let ok = c.put_cell.ensures.ok in
    laid_there c.self.inside.cells.items c.put_cell.new.cells.items (c.args.cell.archive, c.args.cell.slot) (c.args.cell.bucket, c.args.cell.value) c.put_cell.result ok

pub returns-clause-others : goal.returns-clause-others
returns-clause-others c =
    let ok = c.put_cell.ensures.ok in
    subst (λ (patch : PatchValue). OnOk c.put_cell.result ((place : ℕ × ℕ) → place ≢ (c.args.cell.archive, c.args.cell.slot) → cell_at c.put_cell.new.cells.items place ≡ cell_at patch.cells place)) c.self.view_is
    (laid_others c.self.inside.cells.items c.put_cell.new.cells.items (c.args.cell.archive, c.args.cell.slot) (c.args.cell.bucket, c.args.cell.value) c.put_cell.result ok)
