use Rattle.std.proofs.Common.{◌≡◌, ◌<◌, ◌+◌, ◌∷◌, ◌++◌, ℕ, List, [], All, length, take, drop, sym, refl, subst, arith}
use Rattle.std.proofs.lemmas.List.{length-take-le, take_rest}
use Rattle.fixed_num.proofs.FrontLemmas.{clean_pointed, plain_pointed, plain_value, plain_whole, pointed_front}
use Rattle.fixed_num.proofs.front.milli_front.Goals as goal

pub returns-then-whole-text-clause-value : goal.returns-then-whole-text-clause-value
returns-then-whole-text-clause-value c =
    let text = c.args.text.now in
    let whole = c.digits_front-whole in
    let some : 0 < length (take whole.result.len text) = omega (arith, c.if-whole-eq0.false, length-take-le whole.result.len text whole.ensures.within.0) in
    rw c.thousandths.ensures
    (plain_value (take whole.result.len text) (take whole.result.len text) [] whole.result.number 0 (plain_whole (take whole.result.len text) whole.ensures.digits some) whole.ensures.value refl whole.ensures.range (omega arith))

pub returns-clause-value : goal.returns-clause-value
returns-clause-value c =
    let text = c.args.text.now in
    let whole = c.digits_front-whole in
    let fraction = c.digits_front-fraction in
    let rest : List ℕ = drop (whole.result.len + 1) text in
    let some : 0 < length (take whole.result.len text) = omega (arith, c.if-whole-eq0.false, length-take-le whole.result.len text whole.ensures.within.0) in
    let within : whole.result.len < length text = omega (arith, c.if-whole-text.false, whole.ensures.within.0) in
    let front = pointed_front text whole.result.len fraction.result.len within c.if-text-whole-ne46.false in
    let behind = rw take_rest at fraction.ensures.within in
    let count : length (take fraction.result.len rest) ≡ fraction.result.len = length-take-le fraction.result.len rest behind.0 in
    rw (c.thousandths-2.ensures, front)
    (rw count at (plain_value (take whole.result.len text ++ 46 ∷ take fraction.result.len rest) (take whole.result.len text) (take fraction.result.len rest) whole.result.number fraction.result.number
    (plain_pointed (take whole.result.len text) (take fraction.result.len rest) whole.ensures.digits (rw take_rest at fraction.ensures.digits) some)
    whole.ensures.value (rw take_rest at fraction.ensures.value) whole.ensures.range fraction.ensures.range))

pub returns-clause-clean : goal.returns-clause-clean
returns-clause-clean c =
    let text = c.args.text.now in
    let whole = c.digits_front-whole in
    let fraction = c.digits_front-fraction in
    let rest : List ℕ = drop (whole.result.len + 1) text in
    let within : whole.result.len < length text = omega (arith, c.if-whole-text.false, whole.ensures.within.0) in
    let front = pointed_front text whole.result.len fraction.result.len within c.if-text-whole-ne46.false in
    subst (All (λ b. 32 < b)) (sym front)
    (clean_pointed (take whole.result.len text) (take fraction.result.len rest) whole.ensures.digits (rw take_rest at fraction.ensures.digits))
