-- The range of a factor.
use Rattle.std.proofs.Common.{◌≡◌, ℕ, zero, suc, ◌*◌, ◌≤◌, ◌==◌, Bool, true, false, not, ◌&&◌, ◌||◌, List, Ok, Err, refl, arith, nat_le, if◌then◌else◌}
use Rattle.std.proofs.Math.Nat.{div-le_of_le-mul}
use Rattle.std.proofs.lemmas.Bool.Decides.{nat_tests}
use Rattle.std.specs.Prelude.{pos, neg_ℤ, nat_abs}
use Rattle.std.specs.Str.Parse.{starts_with_minus}
use Rattle.fixed_num.specs.Decimal.{is_number, is_within_one, numerator_of, denominator_of, scaled, floor_of}
use Rattle.fixed_num.specs.declared.NumFault.{NumFault}
use Rattle.fixed_num.specs.declared.NumFault.TheVariants.{OutOfRange}
use Rattle.fixed_num.specs.Read.{fault_of, millionths_result}

nat_abs_neg : (n : ℕ) → nat_abs (neg_ℤ (pos n)) ≡ n
nat_abs_neg zero = refl
nat_abs_neg (suc n) = refl

floor_most : (negative : Bool) (n d : ℕ) → ((not negative || n == 0) && nat_le n d) ≡ true → nat_abs (floor_of negative (n * 1000000) d) ≤ 1000000
floor_most true n d within =
    let none : n ≡ 0 = grind (arith, nat_tests) in
    rw nat_abs_neg (div-le_of_le-mul d (omega arith))
floor_most false n d within =
    let low : n ≤ d = grind (arith, nat_tests) in
    div-le_of_le-mul d (omega arith)

by_tests : (text : List ℕ) (n : ℕ) (number within : Bool) (fault : NumFault) → is_within_one text ≡ within
    → (if number then (if within then Ok (nat_abs (scaled 1000000 text)) else Err OutOfRange) else Err fault) ≡ Ok n → n ≤ 1000000
by_tests text n true true fault one e =
    let same : nat_abs (scaled 1000000 text) ≡ n = cc in
    rw (← same) (floor_most (starts_with_minus text) (numerator_of text) (denominator_of text) one)
by_tests text n true false fault one e = absurd cc
by_tests text n false within fault one e = absurd cc

-- what is read in millionths is at most 1
pub millionths_most : (text : List ℕ) (n : ℕ) → millionths_result text ≡ Ok n → n ≤ 1000000
unfolding millionths_result
millionths_most text n e = by_tests text n (is_number text) (is_within_one text) (fault_of text) refl e
