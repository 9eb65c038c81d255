use Rattle.std.proofs.Common.{◌==◌, ◌<◌, ℕ, arith, length, set, subst}
use Rattle.path_glob.specs.Tables.{AreEntered}
use Rattle.path_glob.proofs.TableLemmas.{one_entered}
use Rattle.path_glob.proofs.tables.enter_byte.Goals as goal

pub returns : goal.returns
returns c =
    let over = c.args.over.now in
    let place = c.args.place in
    let x = c.from.result in
    let new = c.insert.new.self in
    let within : x < length over = omega (arith, c.requires.count, c.from.ensures, c.ranges.b) in
    subst (λ (n : ℕ). AreEntered (λ b. b == n) place over (set over x new)) c.from.ensures
    (one_entered over x place c.index-over-from.result new within c.insert.ensures.room c.insert.ensures.added c.insert.ensures.others)
