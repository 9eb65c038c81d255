use Rattle.std.proofs.Common.{◌*◌, ◌/◌, ◌^◌, ◌≤◌, arith}
use Rattle.std.proofs.Math.Nat.{div-le_self, one-le-pow}
use Rattle.fixed_num.proofs.ReachLemmas.{product_below}
use Rattle.fixed_num.proofs.scaling.reached_parts.Goals as goal

pub overflow_mul-part : goal.overflow_mul-part
overflow_mul-part c =
    rw c.power_of_ten-factor.ensures (omega (arith, product_below c.args.fraction c.args.places c.requires.places c.requires.fraction))

pub overflow_mul-whole : goal.overflow_mul-whole
overflow_mul-whole c =
    rw c.power_of_ten-factor.ensures (omega (arith, product_below c.args.whole c.args.places c.requires.places c.requires.whole))

pub nonzero_div-part : goal.nonzero_div-part
nonzero_div-part c = rw c.power_of_ten-divisor.ensures (one-le-pow c.args.digits 10 (omega arith))

pub overflow_add-whole : goal.overflow_add-whole
overflow_add-whole c =
    let part : c.args.fraction * 10 ^ c.args.places / 10 ^ c.args.digits ≤ c.args.fraction * 10 ^ c.args.places = div-le_self _ _ in
    rw (c.power_of_ten-factor.ensures, c.power_of_ten-divisor.ensures)
    (omega (arith, part, product_below c.args.whole c.args.places c.requires.places c.requires.whole, product_below c.args.fraction c.args.places c.requires.places c.requires.fraction))

pub nonzero_rem-result : goal.nonzero_rem-result
nonzero_rem-result c = rw c.power_of_ten-divisor.ensures (one-le-pow c.args.digits 10 (omega arith))

pub returns-clause-most : goal.returns-clause-most
returns-clause-most c =
    let part : c.args.fraction * 10 ^ c.args.places / 10 ^ c.args.digits ≤ c.args.fraction * 10 ^ c.args.places = div-le_self _ _ in
    rw (c.from.ensures, c.power_of_ten-factor.ensures, c.power_of_ten-divisor.ensures)
    (omega (arith, part, product_below c.args.whole c.args.places c.requires.places c.requires.whole, product_below c.args.fraction c.args.places c.requires.places c.requires.fraction))
