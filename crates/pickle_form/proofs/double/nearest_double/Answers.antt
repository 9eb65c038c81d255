use Rattle.std.proofs.Common.{◌+◌, ◌^◌, ℕ, ℤ, unsigned_abs, rules, sym, ap, subst, ◌∙◌}
use Rattle.std.proofs.lemmas.Int.{to_z-of_z}
use Rattle.std.specs.Int.{w128}
use Rattle.pickle_form.specs.Double.{IsNearest, magnitude_bits}
use Rattle.pickle_form.proofs.NearestLemmas.{nearest_of, plain_bits, signed_bits}
use Rattle.pickle_form.proofs.double.nearest_double.Goals as goal

pub returns-then-thousandths-lt0-clause-bits : goal.returns-then-thousandths-lt0-clause-bits
returns-then-thousandths-lt0-clause-bits c =
    let z = c.args.thousandths in
    ap (λ (n : ℕ). 2 ^ 63 + n) (c.magnitude_bits-bits.ensures.bits ∙ (ap magnitude_bits c.unsigned_abs.ensures.value ∙ ap (λ (y : ℤ). magnitude_bits (unsigned_abs y)) (to_z-of_z w128 z c.ranges.thousandths))) ∙ signed_bits z (search rules)

pub returns-then-thousandths-lt0-clause-nearest : goal.returns-then-thousandths-lt0-clause-nearest
returns-then-thousandths-lt0-clause-nearest c =
    let z = c.args.thousandths in
    subst (IsNearest z) (sym (returns-then-thousandths-lt0-clause-bits c)) (nearest_of z (search rules))

pub returns-clause-bits : goal.returns-clause-bits
returns-clause-bits c =
    let z = c.args.thousandths in
    (c.magnitude_bits-bits.ensures.bits ∙ (ap magnitude_bits c.unsigned_abs.ensures.value ∙ ap (λ (y : ℤ). magnitude_bits (unsigned_abs y)) (to_z-of_z w128 z c.ranges.thousandths))) ∙ plain_bits z (search rules)

pub returns-clause-nearest : goal.returns-clause-nearest
returns-clause-nearest c =
    let z = c.args.thousandths in
    subst (IsNearest z) (sym (returns-clause-bits c)) (nearest_of z (search rules))
