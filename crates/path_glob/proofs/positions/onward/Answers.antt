use Rattle.std.proofs.Common.{◌≡◌, ◌<◌, arith}
use Rattle.path_glob.proofs.BitLemmas.{all_where_past, from_lowest, has_bit}
use Rattle.path_glob.proofs.positions.onward.Goals as goal

pub returns-then-before-ne0-clause-lowest : goal.returns-then-before-ne0-clause-lowest
returns-then-before-ne0-clause-lowest c = λ some. has_bit c.args.word (omega arith) some

pub returns-then-before-ne0-clause-bits : goal.returns-then-before-ne0-clause-bits
returns-then-before-ne0-clause-bits c = all_where_past c.args.before c.args.word (grind arith)

pub returns-clause-lowest : goal.returns-clause-lowest
returns-clause-lowest c = λ some. has_bit c.args.word (omega arith) some

pub returns-clause-bits : goal.returns-clause-bits
returns-clause-bits c =
    let none : c.args.before ≡ 0 = grind arith in
    let some : 0 < c.args.word = grind arith in
    rw none (from_lowest c.args.word (omega arith) some)
