-- Gaps of missing values, and what they take.
use Rattle.std.proofs.Common.{◌≡◌, ℕ, ℤ, ◌+◌, ◌-◌, ◌<◌, Bool, true, false, nat_lt, List, length, get_or, set, take, drop, map, Option, Some, None, is_none, cond, refl, sym, ap, ap₂, subst, ◌∙◌, arith}
use Rattle.std.specs.List.{prefix_len, range_with_len, suffix_len}
use Rattle.std.specs.Option.{option_or}
use Rattle.std.proofs.lemmas.Bool.{false≢true}
use Rattle.std.proofs.lemmas.Bool.Decides.{nat_tests}
use Rattle.std.proofs.lemmas.List.{drop_at}
use Rattle.std.proofs.lemmas.List.FromFn.{length-map-range_with_len}
use Rattle.std.proofs.lemmas.List.Sums.{prefix_len-drop_yes, suffix_len-take_no, suffix_len-take_yes}
use Rattle.series_funcs.specs.Shaped.{at, fill_at, gap_before, gap_from, is_short, kept_at, last_known}
use Rattle.series_funcs.proofs.BackLemmas.{last_next}
use Rattle.series_funcs.proofs.PlaceByPlace.{Placed, placed_more}

-- before a place: the last known value, whether a gap has begun, and what it takes then
pub record Fills (most : Option ℕ) (values : List (Option ℤ)) (place : ℕ) (last : Option ℤ) (in_gap : Bool) (fill : Option ℤ) : Type 0 where
  pub last_is : last ≡ last_known (take place values)
  pub begun : in_gap ≡ nat_lt 0 (gap_before values place)
  pub fill_is : in_gap ≡ true → fill ≡ fill_at most values place

pub fills_none : (most : Option ℕ) (values : List (Option ℤ)) (fill : Option ℤ) → Fills most values 0 None false fill
fills_none most values fill = record { last_is = refl; begun = refl; fill_is = λ e. absurd (false≢true e) }

before_last : (values : List (Option ℤ)) (place : ℕ) → suffix_len is_none (take ((place + 1) - 1) values) ≡ gap_before values place
before_last values place = ap (λ (n : ℕ). suffix_len is_none (take n values)) (let same : (place + 1) - 1 ≡ place = omega arith in same)

read_last : (values : List (Option ℤ)) (place : ℕ) (value : Option ℤ) → at values place ≡ value → is_none (get_or values ((place + 1) - 1) None) ≡ is_none value
read_last values place value is = ap (λ (n : ℕ). is_none (get_or values n None)) (let same : (place + 1) - 1 ≡ place = omega arith in same) ∙ ap is_none is

-- a gap is as long from its next place
gap_next : (values : List (Option ℤ)) (place : ℕ) → place < length values → at values place ≡ None → (gap_before values (place + 1) ≡ 1 + gap_before values place) × (gap_from values place ≡ 1 + gap_from values (place + 1))
gap_next values place within missing = (
  suffix_len-take_yes is_none values (place + 1) None (omega arith) (omega arith) (read_last values place None missing) ∙ ap (λ (n : ℕ). 1 + n) (before_last values place),
  prefix_len-drop_yes is_none values place None within (ap is_none missing),
)

last_missing : (values : List (Option ℤ)) (place : ℕ) → place < length values → at values place ≡ None → last_known (take place values) ≡ last_known (take (place + 1) values)
last_missing values place within missing = ap (λ (v : Option ℤ). option_or v (last_known (take place values))) (sym missing) ∙ last_next values place within

fill_next : (most : Option ℕ) (values : List (Option ℤ)) (place : ℕ) → place < length values → at values place ≡ None → fill_at most values place ≡ fill_at most values (place + 1)
unfolding fill_at
fill_next most values place within missing =
    let gaps = gap_next values place within missing in
    ap₂ (λ (n : ℕ) (last : Option ℤ). cond (is_short most n) last None)
    (let same : gap_before values place + gap_from values place ≡ gap_before values (place + 1) + gap_from values (place + 1) = omega (arith, gaps.0, gaps.1) in same)
    (last_missing values place within missing)

pub fills_known : (most : Option ℕ) (values : List (Option ℤ)) (place : ℕ) (v : ℤ) (fill : Option ℤ) → place < length values → at values place ≡ Some v → Fills most values (place + 1) (Some v) false fill
fills_known most values place v fill within found =
    let none : gap_before values (place + 1) ≡ 0 = suffix_len-take_no is_none values (place + 1) None (omega arith) (omega arith) (read_last values place (Some v) found) in
    record { last_is = ap (λ (v : Option ℤ). option_or v (last_known (take place values))) (sym found) ∙ last_next values place within; begun = rw none refl; fill_is = λ e. absurd (false≢true e) }

pub fills_missing : (most : Option ℕ) (values : List (Option ℤ)) (place : ℕ) (last fill : Option ℤ) → place < length values → at values place ≡ None → last ≡ last_known (take place values) → fill ≡ fill_at most values place → Fills most values (place + 1) last true fill
fills_missing most values place last fill within missing last_is fill_is =
    let gaps = gap_next values place within missing in
    record {
      last_is = last_is ∙ last_missing values place within missing;
      begun = rw gaps.0 (grind (arith, nat_tests));
      fill_is = λ e. fill_is ∙ fill_next most values place within missing;
    }

pub kept_known : (most : Option ℕ) (values : List (Option ℤ)) (place : ℕ) (v : ℤ) → at values place ≡ Some v → kept_at most values place ≡ at values place
kept_known most values place v found = rw found refl

pub kept_missing : (most : Option ℕ) (values : List (Option ℤ)) (place : ℕ) → at values place ≡ None → fill_at most values place ≡ kept_at most values place
kept_missing most values place missing = rw missing refl

-- what a gap takes that begins at a place
pub fill_first : (most : Option ℕ) (values now : List (Option ℤ)) (place : ℕ) (last fill : Option ℤ) (in_gap : Bool) (rest : List (Option ℤ)) → Placed (kept_at most values) values now place → Fills most values place last in_gap fill → in_gap ≡ false → rest ≡ drop place now
    → cond (is_short most (prefix_len is_none rest)) last None ≡ fill_at most values place
unfolding fill_at
fill_first most values now place last fill in_gap rest placed fills none is =
    let same : rest ≡ drop place values = is ∙ ap (drop place) placed.is ∙ drop_at (map (kept_at most values) (range_with_len 0 place)) (drop place values) place (length-map-range_with_len (kept_at most values) 0 place) in
    let zero_before : gap_before values place ≡ 0 = (let off : nat_lt 0 (gap_before values place) ≡ false = sym fills.begun ∙ none in grind (arith, nat_tests)) in
    ap₂ (λ (n : ℕ) (last : Option ℤ). cond (is_short most n) last None)
    (ap (prefix_len is_none) same ∙ (let sums : gap_from values place ≡ gap_before values place + gap_from values place = omega (arith, zero_before) in sums))
    fills.last_is

-- one missing value more
pub filled_more : (most : Option ℕ) (values now : List (Option ℤ)) (place : ℕ) (last fill value : Option ℤ) (in_gap : Bool) → value ≡ fill → place < length values → at values place ≡ None → last ≡ last_known (take place values) → Placed (kept_at most values) values now place → in_gap ≡ true → fill ≡ fill_at most values place
    → Placed (kept_at most values) values (set now place value) (place + 1) × Fills most values (place + 1) last in_gap fill
filled_more most values now place last fill value in_gap same within missing last_is placed gap is = (
  placed_more (kept_at most values) values now place None value within (same ∙ is ∙ kept_missing most values place missing) placed,
  subst (λ (b : Bool). Fills most values (place + 1) last b fill) (sym gap) (fills_missing most values place last fill within missing last_is is),
)
