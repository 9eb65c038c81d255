use Rattle.std.proofs.Common.{◌≡◌, List, Option, ℤ, IfOk, length, subst, arith}
use Rattle.ring_archive.proofs.PickedLemmas.{held_picked}
use Rattle.ring_archive.proofs.cells.picked_values.Goals as goal

pub returns-then-count-round : goal.returns-then-count-round
returns-then-count-round c =
    let none : length c.args.patch.now.cells ≡ 0 = omega (arith, c.cell_count.ensures, c.if-cell_count-eq0.true) in
    subst (λ (l : List (Option ℤ)). IfOk c.held_values.result (λ values. values.items ≡ l))
    (held_picked c.args.patch.now.cells c.args.round c.args.bytes.now c.args.first c.args.step c.args.count none c.if-count-round.true)
    c.held_values.ensures
