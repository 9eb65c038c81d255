use Rattle.std.proofs.Common.{◌≡◌, ◌<◌, length, arith}
use Rattle.std.proofs.lemmas.Bool.Decides.{nat_tests}
use Rattle.series_fetch.proofs.LayingLemmas.{held_shown, latest_shown}
use Rattle.series_fetch.proofs.laying.latest_or.Goals as goal

pub returns-then-not-is_empty : goal.returns-then-not-is_empty
returns-then-not-is_empty c =
    let some : 0 < length c.args.own.now = grind (arith, nat_tests, c.is_empty.ensures, c.if-not-is_empty.true) in
    latest_shown c.args.layout.now c.args.held c.args.own.now c.index-own-own.result some

pub returns : goal.returns
returns c =
    let none : length c.args.own.now ≡ 0 = grind (arith, nat_tests, c.is_empty.ensures, c.if-not-is_empty.false) in
    held_shown c.args.layout.now c.args.held c.args.own.now none
