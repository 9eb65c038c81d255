-- Archives that are lawful with one factor are lawful with each.
use Rattle.std.proofs.Common.{◌≡◌, ℕ, ◌≤◌, ◌==◌, Bool, true, false, nat_lt, List, length, Option, Some, None, refl, arith, position, if◌then◌else◌}
use Rattle.std.proofs.lemmas.Bool.Decides.{nat_tests}
use Rattle.ring_format.specs.declared.archive.Archive.{Archive}
use Rattle.ring_format.specs.declared.fault.LayoutFault.{LayoutFault}
use Rattle.ring_format.specs.declared.fault.LayoutFault.TheVariants.{NoArchive, BadStep, StepOrder, StepDivides, TooFewPoints, TooLong, Retention, TooManyPoints, BadFactor}
use Rattle.ring_format.specs.Layout.{layout_fault, fault_at, neighbours, with_fewest_points, point_count, has_bad_step, is_out_of_order, does_not_divide, has_too_few_points, is_too_long, is_no_longer_kept}

-- the first fault by the outcome of each test
unfoldable first_fault : (none : Bool) (step order divides few long kept : Option ℕ) (many high : Bool) → Option LayoutFault
first_fault none step order divides few long kept many high =
    if none then Some NoArchive else
    (fault_at (λ i. BadStep i) step
    (fault_at (λ i. StepOrder i) order
    (fault_at (λ i. StepDivides i) divides
    (fault_at (λ i. TooFewPoints i) few
    (fault_at (λ i. TooLong i) long
    (fault_at (λ i. Retention i) kept
    (if many then Some TooManyPoints else
    (if high then Some BadFactor else None))))))))

with_low : (none : Bool) (step order divides few long kept : Option ℕ) (many high low : Bool) → low ≡ false
    → first_fault none step order divides few long kept many high ≡ None → first_fault none step order divides few long kept many low ≡ None
unfolding first_fault
with_low true step order divides few long kept many high low is_low e = absurd cc
with_low false (Some i) order divides few long kept many high low is_low e = absurd cc
with_low false None (Some i) divides few long kept many high low is_low e = absurd cc
with_low false None None (Some i) few long kept many high low is_low e = absurd cc
with_low false None None None (Some i) long kept many high low is_low e = absurd cc
with_low false None None None None (Some i) kept many high low is_low e = absurd cc
with_low false None None None None None (Some i) many high low is_low e = absurd cc
with_low false None None None None None None true high low is_low e = absurd cc
with_low false None None None None None None false high low is_low e = rw is_low refl

pub lawful_with : (archives : List Archive) (factor : ℕ) → layout_fault archives 500000 ≡ None → factor ≤ 1000000 → layout_fault archives factor ≡ None
unfolding layout_fault first_fault
lawful_with archives factor lawful most =
    let low : nat_lt 1000000 factor ≡ false = grind (arith, nat_tests) in
    with_low (length archives == 0) (position has_bad_step archives) (position is_out_of_order (neighbours archives)) (position does_not_divide (neighbours archives))
    (position has_too_few_points (with_fewest_points archives)) (position is_too_long archives) (position is_no_longer_kept (neighbours archives))
    (nat_lt 4000000 (point_count archives)) (nat_lt 1000000 500000) (nat_lt 1000000 factor) low lawful
