use Rattle.std.proofs.Common.{◌≡◌, ◌<◌, ◌^◌, arith, sym, ap, ◌∙◌}
use Rattle.pickle_form.specs.Double.{magnitude_bits}
use Rattle.pickle_form.proofs.NearestLemmas.{no_bits}
use Rattle.pickle_form.proofs.PlacedLemmas.{code_16, code_32, shifted}
use Rattle.pickle_form.proofs.double.magnitude_bits.Goals as goal

pub returns-then-thousandths-eq0-clause-bits : goal.returns-then-thousandths-eq0-clause-bits
returns-then-thousandths-eq0-clause-bits c =
    let none : c.args.thousandths ≡ 0 = omega arith in
    sym (ap magnitude_bits none ∙ no_bits)

pub returns-then-high-clause-bits : goal.returns-then-high-clause-bits
returns-then-high-clause-bits c =
    let a = c.args.thousandths in
    let some : 0 < a = omega arith in
    let fits : a < 2 ^ 128 = omega (arith, c.requires) in
    let s = shifted a some fits in
    code_16 a c.from.result _ _ c.rounded.result some fits (omega arith) (omega (arith, s)) (omega (arith, s, c.min.ensures, c.min-2.ensures, c.max-rest.ensures)) (omega arith) c.rounded.ensures.half

pub returns-clause-bits : goal.returns-clause-bits
returns-clause-bits c =
    let a = c.args.thousandths in
    let some : 0 < a = omega arith in
    let fits : a < 2 ^ 128 = omega (arith, c.requires) in
    let s = shifted a some fits in
    code_32 a c.from-2.result _ _ c.rounded-2.result some fits (omega arith) (omega (arith, s)) (omega (arith, s, c.min.ensures, c.min-2.ensures, c.max-rest.ensures)) (omega arith) c.rounded-2.ensures.half
