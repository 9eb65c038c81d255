use Rattle.std.proofs.Common.{◌+◌, sym, ◌∙◌, arith}
use Rattle.time_range.proofs.ColumnLemmas.{column_most, kept_settled, kept_start}
use Rattle.time_range.proofs.difference.kept_difference.Goals as goal

pub loop-place-init : goal.loop-place-init
loop-place-init c = record {
  same = kept_start c.args.digits.now c.args.spans.now c.max-place.result (omega (arith, c.max-place.ensures)) (omega (arith, c.max-place.ensures));
  some = c.requires.some;
}

pub kept_down-kept-requires-clause-small : goal.kept_down-kept-requires-clause-small
kept_down-kept-requires-clause-small c = λ k within.
    let sum = c.sum_columns.ensures.each k (omega (arith, c.sum_columns.ensures.length, within)) in
    omega (arith, sum, column_most (c.saturating_sub-from.result + k) c.args.spans.now, c.type_inv.spans)

pub returns-then-is_out_of_reach-clause-value : goal.returns-then-is_out_of_reach-clause-value
returns-then-is_out_of_reach-clause-value c =
    kept_settled c.args.digits.now c.args.spans.now c.loop-place.place c.loop-place.kept c.requires.digits (omega (arith, c.type_inv.spans)) (sym c.is_out_of_reach.ensures ∙ c.if-is_out_of_reach.true)
    c.loop-place.invariant.same
