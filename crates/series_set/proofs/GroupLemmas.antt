-- Groups of neighbouring values, and how many there are.
use Rattle.std.proofs.Common.{◌≡◌, ℕ, ℤ, ◌+◌, ◌*◌, ◌/◌, ◌%◌, ◌<◌, ◌≤◌, List, length, Option, Result, Ok, Err, inl, inr, ap, arith}
use Rattle.std.proofs.Math.Nat.{mul_assoc, mul_comm}
use Rattle.std.specs.Fork.{slice_chunk}
use Rattle.std.specs.Prelude.{IfOk}
use Rattle.std.specs.Int.{div_ceil}
use Rattle.std.proofs.lemmas.Bool.{cases_lt}
use Rattle.std.proofs.lemmas.List.FromFn.{length-map-range_with_len}
use Rattle.std.proofs.lemmas.Nat.{div-add-mod', le-div, mul-le}
use Rattle.series_set.specs.Series.{IsSeries, SeriesValue, end_of, latest_end}
use Rattle.series_set.proofs.PlaceLemmas.{ceil_over, ceil_whole, steps_from}
use Rattle.series_set.specs.Average.{average, known}
use Rattle.series_set.specs.Thinned.{group_averages, grouped}

-- groups that cover all values are no more than that
pub groups_cover : (n m k : ℕ) → 1 ≤ k → n ≤ m * k → div_ceil n k ≤ m
groups_cover n m k some covered =
    let product = div-add-mod' n k in
    elim (cases_lt 0 (n % k)) [
      | inl over ↦ elim (cases_lt (n / k) m) [ inl lt ↦ omega (arith, ceil_over n k over) | inr le ↦ absurd (omega (arith, product, covered, mul-le m k (n / k) k le (omega arith))) ]
      | inr none ↦ elim (cases_lt m (n / k)) [ inl lt ↦ absurd (omega (arith, product, covered, mul-le (m + 1) k (n / k) k (omega arith) (omega arith))) | inr le ↦ omega (arith, ceil_whole n k none) ]
    ]

-- groups of the size that the most of them asks for cover all
pub size_covers : (n most : ℕ) → 1 ≤ most → n ≤ most * div_ceil n most
size_covers n most some = omega (arith, mul_comm most (div_ceil n most), steps_from n most (div_ceil n most) some (omega arith))

-- the groups together have less than one group more
groups_end : (n k : ℕ) → 1 ≤ k → div_ceil n k * k < n + k
groups_end n k some =
    let product = div-add-mod' n k in
    elim (cases_lt 0 (n % k)) [
      | inl over ↦ omega (arith, product, ap (λ (m : ℕ). m * k) (ceil_over n k over))
      | inr none ↦ omega (arith, product, ap (λ (m : ℕ). m * k) (ceil_whole n k none))
    ]

pub length-groups : (size : ℕ) (values : List (Option ℤ)) → length (group_averages size values) ≡ div_ceil (length values) size
unfolding group_averages
length-groups size values = length-map-range_with_len (λ n. average (known (slice_chunk values size n))) 0 (div_ceil (length values) size)

pub grouped_is : (size : ℕ) (s : SeriesValue) → 1 ≤ size → size ≤ length s.values → 2 * end_of s ≤ latest_end → IsSeries s → IsSeries (grouped size s)
grouped_is size s some few early is =
    let n = length s.values in
    let groups = div_ceil n size in
    let many : length (group_averages size s.values) ≡ groups = length-groups size s.values in
    let fewer : groups ≤ n = groups_cover n n size some (omega (arith, mul-le n 1 n size (omega arith) some)) in
    let covered = mul-le (groups * size) s.step (2 * n) s.step (omega (arith, groups_end n size some, few)) (omega arith) in
    record {
      some = mul-le 1 1 size s.step some is.some;
      few = omega (arith, many, fewer, is.few);
      early = omega (arith, ap (λ (m : ℕ). m * (size * s.step)) many, mul_assoc groups size s.step, covered, mul_assoc 2 n s.step, early);
    }

-- a thinned series has no more values than it may
pub thinned_few : (most size : ℕ) (s : SeriesValue) → 1 ≤ most → most < length s.values → size ≡ div_ceil (length s.values) most → length (grouped size s).values ≤ most
thinned_few most size s some many is =
    let n = length s.values in
    let least : 1 ≤ div_ceil n most = omega (arith, le-div 1 n most some (omega arith)) in
    omega (arith, length-groups size s.values, groups_cover n most size (omega (arith, is)) (omega (arith, ap (λ (m : ℕ). most * m) is, size_covers n most some)))

pub if_ok_more : {T E : Type 0} (P Q : T → Type 0) (r : Result T E) → IfOk r P → ((x : T) → P x → Q x) → IfOk r Q
if_ok_more P Q (Ok x) held more = more x held
if_ok_more P Q (Err e) held more = tt
