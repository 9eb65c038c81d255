-- Sums of values, and their averages.
use Rattle.std.proofs.Common.{◌≡◌, ℕ, ℤ, pos, negsuc, to_z, of_z, ◌+◌, ◌/◌, ◌^◌, ◌+ℤ◌, ◌<◌, ◌≤◌, ◌==◌, false, List, [], ◌∷◌, ◌++◌, length, take, get_or, fold, Option, Some, None, refl, sym, ap, subst, ◌∙◌, arith}
use Rattle.std.specs.List.{cons_option}
use Rattle.std.proofs.lemmas.List.{append-nil, length_push, take_more}
use Rattle.std.proofs.lemmas.List.Elements.{filter_map-append}
use Rattle.std.proofs.lemmas.List.Sums.{fold-append}
use Rattle.std.specs.Int.{int_div_euclid, w128}
use Rattle.fixed_num.specs.Milli.{IsMilli}
use Rattle.std.specs.Int.RustNames.{FitsSigned}
use Rattle.std.specs.Option.{SomeIff}
use Rattle.std.proofs.lemmas.Bool.Decides.{nat_tests}
use Rattle.std.proofs.lemmas.Int.{ints, to_z-of_z}
use Rattle.std.proofs.lemmas.Nat.{div_below}
use Rattle.series_set.specs.Average.{IsWithinSums, average, known, sum_of}

pub within_none : IsWithinSums 0 (pos 0)
within_none = record { least = omega (arith, ints); greatest = omega (arith, ints) }

pub within_more : (count : ℕ) (sum value : ℤ) → IsWithinSums count sum → IsMilli value → IsWithinSums (count + 1) (sum +ℤ value)
within_more count sum value within fits =
    let least = within.least in
    let greatest = within.greatest in
    record { least = omega (arith, ints); greatest = omega (arith, ints) }

-- an average fits
pub average_fits : (count : ℕ) (sum : ℤ) → 0 < count → IsWithinSums count sum → IsMilli (int_div_euclid sum (pos count))
average_fits count (pos a) some within =
    let greatest = within.greatest in
    let below : a / count < 10 ^ 30 + 1 = div_below a count (10 ^ 30 + 1) some (omega (arith, ints)) in
    omega (arith, ints)
average_fits count (negsuc a) some within =
    let least = within.least in
    let below : a / count < 10 ^ 30 = div_below a count (10 ^ 30) some (omega (arith, ints)) in
    omega (arith, ints)

-- ---- the values up to a place

-- the sum and the number of the known values up to a place
abbrev pub Totals : List (Option ℤ) → ℕ → ℤ → ℕ → Type 0
Totals values i sum count =
    (sum ≡ fold ◌+ℤ◌ (pos 0) (known (take i values)))
    × ((count ≡ length (known (take i values)))
    × ((count ≤ i) × IsWithinSums count sum))

next_known : (values : List (Option ℤ)) (i : ℕ) → i < length values → known (take (i + 1) values) ≡ known (take i values) ++ cons_option (get_or values i None) []
next_known values i within = ap known (take_more values i None within) ∙ filter_map-append (λ value. value) (take i values) (get_or values i None ∷ [])

pub totals_missing : (values : List (Option ℤ)) (i count : ℕ) (sum : ℤ) → i < length values → get_or values i None ≡ None → Totals values i sum count → Totals values (i + 1) sum count
totals_missing values i count sum within is so_far =
    let same : known (take (i + 1) values) ≡ known (take i values) = next_known values i within ∙ rw is (append-nil (known (take i values))) in
    (so_far.0 ∙ ap (fold ◌+ℤ◌ (pos 0)) (sym same), (so_far.1.0 ∙ ap length (sym same), (omega (arith, so_far.1.1.0), so_far.1.1.1)))

pub totals_known : (values : List (Option ℤ)) (i count : ℕ) (sum v : ℤ) → i < length values → get_or values i None ≡ Some v → IsMilli v → Totals values i sum count → Totals values (i + 1) (sum +ℤ v) (count + 1)
totals_known values i count sum v within is fits so_far =
    let more : known (take (i + 1) values) ≡ known (take i values) ++ v ∷ [] = next_known values i within ∙ rw is refl in (
      ap (λ (z : ℤ). z +ℤ v) so_far.0 ∙ sym (fold-append ◌+ℤ◌ (pos 0) (known (take i values)) (v ∷ [])) ∙ ap (fold ◌+ℤ◌ (pos 0)) (sym more),
      (
        ap (λ (n : ℕ). n + 1) so_far.1.0 ∙ sym (length_push (known (take i values)) v) ∙ ap length (sym more),
        (
          omega (arith, so_far.1.1.0),
          within_more count sum v so_far.1.1.1 fits,
        ),
      ),
    )

-- so many values have a sum that 128 bits hold
pub sum_fits : (count : ℕ) (sum : ℤ) → count ≤ 2 ^ 26 → IsWithinSums count sum → FitsSigned w128 sum
sum_fits count sum few within =
    let least = within.least in
    let greatest = within.greatest in
    omega (arith, ints)

-- the sum with one more value, as the code adds it
pub sum_added : (count : ℕ) (sum v r : ℤ) → count ≤ 2 ^ 26 → IsWithinSums count (sum +ℤ v) → IsMilli v → r ≡ v → to_z w128 (of_z w128 (sum +ℤ to_z w128 (of_z w128 r))) ≡ sum +ℤ v
sum_added count sum v r few within fits same =
    let wide : FitsSigned w128 v = omega (arith, ints) in
    ap (λ (z : ℤ). to_z w128 (of_z w128 (sum +ℤ to_z w128 (of_z w128 z)))) same
    ∙ ap (λ (z : ℤ). to_z w128 (of_z w128 (sum +ℤ z))) (to_z-of_z w128 v wide)
    ∙ to_z-of_z w128 (sum +ℤ v) (sum_fits count (sum +ℤ v) few within)

-- ---- the average

pub average_is : (values : List ℤ) (count : ℕ) (sum quotient : ℤ) (result : Option ℤ) → sum ≡ sum_of values → count ≡ length values → IsWithinSums count sum → 0 < count → count ≤ 2 ^ 26
    → quotient ≡ int_div_euclid (to_z w128 (of_z w128 sum)) (pos count)
    → SomeIff result (IsMilli (to_z w128 (of_z w128 quotient))) (to_z w128 (of_z w128 quotient))
    → result ≡ average values
unfolding average
average_is values count sum quotient result sum_is count_is within some few quotient_is narrowed =
    let is : quotient ≡ int_div_euclid sum (pos count) = quotient_is ∙ ap (λ (z : ℤ). int_div_euclid z (pos count)) (to_z-of_z w128 sum (sum_fits count sum few within)) in
    let fits : IsMilli quotient = subst (λ (z : ℤ). IsMilli z) (sym is) (average_fits count sum some within) in
    let wide_too : FitsSigned w128 quotient = omega (arith, ints) in
    let same : to_z w128 (of_z w128 quotient) ≡ quotient = to_z-of_z w128 quotient wide_too in
    let told : SomeIff result (IsMilli quotient) quotient = subst (λ (z : ℤ). SomeIff result (IsMilli z) z) same narrowed in
    let known_some : (length values == 0) ≡ false = grind (arith, nat_tests) in
    some_where_fits result quotient fits told
    ∙ ap (λ (z : ℤ). Some z) (is ∙ ap (λ (z : ℤ). int_div_euclid z (pos count)) sum_is ∙ ap (λ (n : ℕ). int_div_euclid (sum_of values) (pos n)) count_is)
    ∙ sym (rw known_some refl)
  where
    some_where_fits : (result : Option ℤ) (quotient : ℤ) → IsMilli quotient → SomeIff result (IsMilli quotient) quotient → result ≡ Some quotient
    some_where_fits None quotient fits told = absurd (told fits)
    some_where_fits (Some x) quotient fits told = ap (λ (z : ℤ). Some z) told.1
