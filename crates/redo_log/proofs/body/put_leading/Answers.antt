use Rattle.std.proofs.Common.{◌∙◌, List, ℕ, ◌++◌, take, length, ap, arith}
use Rattle.ring_format.specs.Head.{head_bytes}
use Rattle.ring_format.specs.Layout.{LayoutValue}
use Rattle.redo_log.proofs.BodyLemmas.{leading_written, length-head, length-leading, numbers_are}
use Rattle.redo_log.proofs.body.put_leading.Goals as goal

pub returns-clause-end : goal.returns-clause-end
returns-clause-end c =
    omega (
      arith,
      length-leading c.args.patch.now,
      c.put_head.ensures.end,
      c.put_bytes-end.ensures.end,
      ap (λ (layout : LayoutValue). length (head_bytes layout)) c.layout.ensures,
      length-head c.args.patch.now.layout,
      ap length (c.text-text.ensures.value ∙ c.path.ensures),
    )

pub returns-clause-written : goal.returns-clause-written
returns-clause-written c =
    let text = c.text-text.ensures.value ∙ c.path.ensures in
    leading_written c.args.patch.now (take 16 c.put_numbers.new.out) _ (take c.put_head.result c.put_head.new.out)
    (numbers_are c.args.patch.now _ _ _ _ c.put_numbers.ensures (omega (arith, ap length text)) c.fresh.ensures c.cell_count.ensures)
    (c.put_bytes-end.ensures.written ∙ ap (λ (xs : List ℕ). take 16 c.put_numbers.new.out ++ xs) text)
    (c.put_head.ensures.written ∙ ap (λ (layout : LayoutValue). take c.put_bytes-end.result c.put_bytes-end.new.out ++ head_bytes layout) c.layout.ensures)
