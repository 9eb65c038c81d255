use Rattle.std.proofs.Common.{◌≡◌, ◌+◌, ◌-◌, arith}
use Rattle.std.proofs.lemmas.Fmt.{decimal_digit}
use Rattle.std.proofs.lemmas.List.{drop-set}
use Rattle.itoa.proofs.Decimal.{length_one, decimal_two, length_two}
use Rattle.render_json.proofs.backward.put_first.Goals as goal

pub overflow_sub-text : goal.overflow_sub-text
overflow_sub-text c = omega (arith, length_one c.args.n c.if-n-lt10.true)

pub bounds-text-end : goal.bounds-text-end
bounds-text-end c = omega (arith, length_one c.args.n c.if-n-lt10.true)

pub overflow_sub-result : goal.overflow_sub-result
overflow_sub-result c = omega (arith, length_one c.args.n c.if-n-lt10.true)

pub returns-then-n-lt10-clause-start : goal.returns-then-n-lt10-clause-start
returns-then-n-lt10-clause-start c = omega (arith, length_one c.args.n c.if-n-lt10.true)

pub returns-then-n-lt10-clause-written : goal.returns-then-n-lt10-clause-written
returns-then-n-lt10-clause-written c =
    let long = length_one c.args.n c.if-n-lt10.true in
    let e : c.args.end - 1 + 1 ≡ c.args.end = omega arith in
    rw (drop-set c.args.text.now (c.args.end - 1) _ (omega arith), e, decimal_digit c.args.n c.if-n-lt10.true)

pub put_pair-requires-clause-room : goal.put_pair-requires-clause-room
put_pair-requires-clause-room c = omega (arith, length_two c.args.n c.if-n-lt10.false c.requires.short)

pub returns-clause-start : goal.returns-clause-start
returns-clause-start c = omega (arith, length_two c.args.n c.if-n-lt10.false c.requires.short, c.put_pair.ensures.start)

pub returns-clause-written : goal.returns-clause-written
returns-clause-written c = rw (c.put_pair.ensures.written, decimal_two c.args.n c.if-n-lt10.false c.requires.short)
