use Rattle.std.proofs.Common.{◌-◌, ◌∙◌, ℕ, ℤ, length, ap, sym, arith, rules}
use Rattle.std.specs.Ordering.{is_gt}
use Rattle.std.proofs.lemmas.List.Sorted.{IsPartitionPoint-from_clause}
use Rattle.ring_format.specs.Patch.{place_cmp}
use Rattle.ring_format.proofs.CellOrder.{all_before, before_is, none_before, parted, puts_at}
use Rattle.ring_format.proofs.patch.cells_before.Goals as goal

pub returns-then-count-eq0-clause-value : goal.returns-then-count-eq0-clause-value
returns-then-count-eq0-clause-value c = none_before c.args.cells.now (c.args.archive, c.args.slot) c.if-count-eq0.true

pub returns-then-count-eq0-clause-puts : goal.returns-then-count-eq0-clause-puts
returns-then-count-eq0-clause-puts c = puts_at c.args.cells.now (c.args.archive, c.args.slot) _ c.requires (none_before c.args.cells.now (c.args.archive, c.args.slot) c.if-count-eq0.true)

pub returns-then-stands_before-clause-value : goal.returns-then-stands_before-clause-value
returns-then-stands_before-clause-value c =
    all_before c.args.cells.now (c.args.archive, c.args.slot) (length c.args.cells.now - 1) c.index-cells-count.result c.requires (omega (arith, c.if-count-eq0.false))
    (ap (λ (cell : (ℕ × ℕ) × (ℕ × ℤ)). is_gt (place_cmp (c.args.archive, c.args.slot) cell.0)) (sym c.index-cells-count.is) ∙ sym c.stands_before.ensures ∙ c.if-stands_before.true)

pub returns-then-stands_before-clause-puts : goal.returns-then-stands_before-clause-puts
returns-then-stands_before-clause-puts c =
    puts_at c.args.cells.now (c.args.archive, c.args.slot) _ c.requires
    (all_before c.args.cells.now (c.args.archive, c.args.slot) (length c.args.cells.now - 1) c.index-cells-count.result c.requires (omega (arith, c.if-count-eq0.false))
    (ap (λ (cell : (ℕ × ℕ) × (ℕ × ℤ)). is_gt (place_cmp (c.args.archive, c.args.slot) cell.0)) (sym c.index-cells-count.is) ∙ sym c.stands_before.ensures ∙ c.if-stands_before.true))

pub returns-clause-value : goal.returns-clause-value
returns-clause-value c =
    let point = IsPartitionPoint-from_clause (λ cell. is_gt (place_cmp (c.args.archive, c.args.slot) cell.0)) _ _ c.partition_point.ensures.partitioned
    (parted c.args.cells.now (c.args.archive, c.args.slot) c.requires) (λ a r q k. search rules) in
    before_is c.args.cells.now (c.args.archive, c.args.slot) _ c.partition_point.ensures.bound point

pub returns-clause-puts : goal.returns-clause-puts
returns-clause-puts c =
    let point = IsPartitionPoint-from_clause (λ cell. is_gt (place_cmp (c.args.archive, c.args.slot) cell.0)) _ _ c.partition_point.ensures.partitioned
    (parted c.args.cells.now (c.args.archive, c.args.slot) c.requires) (λ a r q k. search rules) in
    puts_at c.args.cells.now (c.args.archive, c.args.slot) _ c.requires (before_is c.args.cells.now (c.args.archive, c.args.slot) _ c.partition_point.ensures.bound point)
