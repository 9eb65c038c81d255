use Rattle.std.proofs.Common.{◌≡◌, ◌+◌, ◌≤◌, length, arith, rules}
use Rattle.time_range.specs.Spans.{digits_of}
use Rattle.time_range.proofs.ColumnLemmas.{none_there}
use Rattle.time_range.proofs.columns.add_span.Goals as goal

pub returns-else-digits-from-clause-each : goal.returns-else-digits-from-clause-each
returns-else-digits-from-clause-each c = λ k within.
    let own : c.split_at.result.0.now ≡ digits_of c.args.span.now = search rules in
    let here : length c.split_at.result.0.now ≤ c.args.from = omega (arith, c.if-digits-from.false) in
    let few : length (digits_of c.args.span.now) ≤ c.args.from = rw own at here in
    omega (arith, none_there (c.args.from + k) c.args.span.now (omega (arith, few)))
