use Rattle.std.proofs.Common.{◌≡◌, ◌+◌, ◌<◌, length, take, drop, ◌∙◌, arith, rules}
use Rattle.time_range.specs.Spans.{first_length}
use Rattle.time_range.proofs.ColumnLemmas.{column_more, column_most, column_none, none_at}
use Rattle.time_range.proofs.columns.sum_columns.Goals as goal

pub loop-rest-init : goal.loop-rest-init
loop-rest-init c = record { all = c.fill.ensures.len; each = λ k within. rw (c.fill.ensures.after (λ y e. e), none_at (length c.args.sums.now) k) (omega arith) }

pub add_span-requires : goal.add_span-requires
add_span-requires c = λ k within.
    let sum = c.loop-rest.invariant.each k (omega (arith, c.loop-rest.invariant.all, within)) in
    omega (arith, sum, column_most (c.args.from + k) c.args.spans.now, c.type_inv.spans)

pub loop-rest-preserved : goal.loop-rest-preserved
loop-rest-preserved c =
    let some : 0 < length c.loop-rest.rest.now = search (rules, arith) in
    let front : c.split_at.result.0.now ≡ take (first_length c.loop-rest.rest.now) c.loop-rest.rest.now = search rules in
    let more : c.split_at.result.1.now ≡ drop (first_length c.loop-rest.rest.now) c.loop-rest.rest.now = search rules in
    record {
      all = c.add_span.ensures.length ∙ c.loop-rest.invariant.all;
      each = λ k within.
          let own = rw front at (c.add_span.ensures.each k (omega (arith, c.loop-rest.invariant.all, within))) in
          rw more (omega (arith, c.loop-rest.invariant.each k within, column_more (c.args.from + k) c.loop-rest.rest.now some, own));
    }

pub returns-clause-each : goal.returns-clause-each
returns-clause-each c = λ k within.
    let none : length c.loop-rest.rest.now ≡ 0 = search (rules, arith) in
    omega (arith, c.loop-rest.invariant.each k within, column_none (c.args.from + k) c.loop-rest.rest.now none)
