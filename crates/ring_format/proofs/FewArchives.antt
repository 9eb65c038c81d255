-- A lawful layout has at most 25 archives: each step is at least twice the one before it, and 2 ^ 25 is above
-- the greatest step.
use Rattle.std.proofs.Common.{◌≡◌, ℕ, zero, suc, ◌*◌, ◌/◌, ◌%◌, ◌^◌, ◌<◌, ◌≤◌, Bool, true, false, cond, List, length, get_or, drop, Some, None, inl, inr, refl, sym, ap, ◌∙◌, arith, position, pow-suc}
use Rattle.std.proofs.lemmas.Bool.{cases_lt, ltb-false}
use Rattle.std.proofs.lemmas.Bool.Decides.{nat_tests}
use Rattle.std.proofs.lemmas.List.Sums.{fails_before_first}
use Rattle.std.proofs.lemmas.Slice.Zip.{get_or-zip, length-zip}
use Rattle.std.proofs.lemmas.Grind.{get_or_after_one}
use Rattle.std.proofs.lemmas.List.{length-drop}
use Rattle.std.proofs.Math.Nat.{mul-le-mul_left}
use Rattle.ring_format.specs.declared.archive.Archive.{Archive}
use Rattle.ring_format.specs.Layout.{neighbours, has_bad_step, is_out_of_order, does_not_divide}

cond_none : {X : Type 0} (b : Bool) (x : X) → cond b (Some x) None ≡ None → b ≡ false
cond_none true x e = absurd cc
cond_none false x e = refl

-- where no place is found, no item passes
pub none_passes : {X : Type 0} (test : X → Bool) (xs : List X) (d : X) → position test xs ≡ None → (k : ℕ) → k < length xs → test (get_or xs k d) ≡ false
none_passes test xs d none k within =
    fails_before_first test xs k d (omega (arith, ltb-false _ _ (cond_none _ _ none), within))

-- a number that divides a greater one is at most half of it
twice_below : (a b : ℕ) → 0 < a → a < b → b % a ≡ 0 → 2 * a ≤ b
twice_below a b some less divides =
    elim (cases_lt (b / a) 2) [
      | inl few ↦ absurd (omega (arith, mul-le-mul_left a (let q : b / a ≤ 1 = omega arith in q)))
      | inr many ↦ omega (arith, mul-le-mul_left a many)
    ]

pub good_step : (archive : Archive) → has_bad_step archive ≡ false → (1 ≤ archive.step) × (archive.step ≤ 31536000)
good_step archive good = (grind (arith, nat_tests), grind (arith, nat_tests))

step_doubles : (a b : Archive) → 1 ≤ a.step → is_out_of_order (a, b) ≡ false → does_not_divide (a, b) ≡ false → 2 * a.step ≤ b.step
step_doubles a b some ordered divides =
    twice_below a.step b.step some (grind (arith, nat_tests)) (grind (arith, nat_tests))

-- the archive at a place beside the next one
neighbour_at : (archives : List Archive) (k : ℕ) (d : Archive) → suc k < length archives → get_or (neighbours archives) k (d, d) ≡ (get_or archives k d, get_or archives (suc k) d)
neighbour_at archives k d within =
    let next : get_or (drop 1 archives) k d ≡ get_or archives (suc k) d = get_or_after_one archives k d ∙ ap (λ (n : ℕ). get_or archives n d) (omega arith) in
    get_or-zip archives (drop 1 archives) k (d, d) (omega arith) (omega (arith, length-drop 1 archives)) ∙ rw next refl

-- the step of each archive is at least two to the power of its place
pub steps_double : (archives : List Archive) (d : Archive) → position has_bad_step archives ≡ None → position is_out_of_order (neighbours archives) ≡ None
    → position does_not_divide (neighbours archives) ≡ None → (k : ℕ) → k < length archives → 2 ^ k ≤ (get_or archives k d).step
steps_double archives d good ordered divides zero within = (good_step (get_or archives 0 d) (none_passes has_bad_step archives d good 0 within)).0
steps_double archives d good ordered divides (suc k) within =
    let before : 2 ^ k ≤ (get_or archives k d).step = steps_double archives d good ordered divides k (omega arith) in
    let some : 1 ≤ (get_or archives k d).step = (good_step (get_or archives k d) (none_passes has_bad_step archives d good k (omega arith))).0 in
    let pairs : k < length (neighbours archives) = omega (arith, length-zip archives (drop 1 archives), length-drop 1 archives) in
    let one : is_out_of_order (get_or archives k d, get_or archives (suc k) d) ≡ false = ap is_out_of_order (sym (neighbour_at archives k d within)) ∙ none_passes is_out_of_order (neighbours archives) (d, d) ordered k pairs in
    let two : does_not_divide (get_or archives k d, get_or archives (suc k) d) ≡ false = ap does_not_divide (sym (neighbour_at archives k d within)) ∙ none_passes does_not_divide (neighbours archives) (d, d) divides k pairs in
    omega (arith, step_doubles (get_or archives k d) (get_or archives (suc k) d) some one two, pow-suc 2 k)

pub few_archives : (archives : List Archive) → position has_bad_step archives ≡ None → position is_out_of_order (neighbours archives) ≡ None
    → position does_not_divide (neighbours archives) ≡ None → length archives ≤ 25
few_archives archives good ordered divides =
    let d : Archive = record { step = 0; points = 0 } in
    elim (cases_lt 25 (length archives)) [
      | inl many ↦ absurd (omega (arith, steps_double archives d good ordered divides 25 many, (good_step (get_or archives 25 d) (none_passes has_bad_step archives d good 25 many)).1))
      | inr few ↦ few
    ]
