-- Places of rules: the first that passes a test, all that pass, and those of two classes.
use Rattle.std.proofs.Common.{◌≡◌, ◌∙◌, ◌⊎◌, inl, inr, ◌+◌, ◌-◌, ◌<◌, ◌≤◌, ◌||◌, ℕ, zero, suc, min, Bool, true, false, if◌then◌else◌, All, List, [], ◌∷◌, drop, length, slice_get, Option, Some, None, IfSome, refl, sym, ap, subst, arith}
use Rattle.std.proofs.Math.Seq.{drop-nil}
use Rattle.std.proofs.lemmas.Bool.{cases_lt, eqb-true}
use Rattle.std.proofs.lemmas.List.{drop-drop}
use Rattle.std.proofs.lemmas.List.Elements.{All-cons, All-nil}
use Rattle.std.proofs.lemmas.Option.{slice_get_within}
use Rattle.aggregate_rules.specs.RuleTexts.{RuleValue}
use Rattle.aggregate_rules.specs.RulePlaces.{IsFirst, class_of_rule, first_from, has_class, least_of, may_fit, places_from}

-- behind a place, among the rules from that place on
drop_one : (place : ℕ) (rule : RuleValue) (rules : List RuleValue) → drop (place + 1 - place) (rule ∷ rules) ≡ rules
drop_one place rule rules = let one : place + 1 - place ≡ 1 = omega arith in rw one refl

drop_later : (place j : ℕ) (rule : RuleValue) (rules : List RuleValue) → place + 1 ≤ j → drop (j + 1 - place) (rule ∷ rules) ≡ drop (j + 1 - (place + 1)) rules
drop_later place j rule rules le = let more : j + 1 - place ≡ suc (j + 1 - (place + 1)) = omega arith in rw more refl

get_later : (place j : ℕ) (rule : RuleValue) (rules : List RuleValue) → place + 1 ≤ j → slice_get (rule ∷ rules) (j - place) ≡ slice_get rules (j - (place + 1))
get_later place j rule rules le = let more : j - place ≡ suc (j - (place + 1)) = omega arith in rw more refl

get_here : (place : ℕ) (rule : RuleValue) (rules : List RuleValue) → slice_get (rule ∷ rules) (place - place) ≡ Some rule
get_here place rule rules = let none : place - place ≡ 0 = omega arith in rw none refl

-- ---- the first that passes

-- what is known of the first place that passes
pub record Found (p : RuleValue → Bool) (place : ℕ) (rules : List RuleValue) (first : ℕ) : Type 0 where
  pub low : place ≤ first
  pub within : first < place + length rules
  pub passes : (rule : RuleValue) × (slice_get rules (first - place) ≡ Some rule) × (p rule ≡ true)
  pub list : places_from p place rules ≡ first ∷ places_from p (first + 1) (drop (first + 1 - place) rules)

found_here : (p : RuleValue → Bool) (place : ℕ) (rule : RuleValue) (rules : List RuleValue) → p rule ≡ true → Found p place (rule ∷ rules) place
found_here p place rule rules passes = record {
  low = omega arith;
  within = omega arith;
  passes = (rule, get_here place rule rules, passes);
  list = rw (passes, drop_one) refl;
}

found_later : (p : RuleValue → Bool) (place : ℕ) (rule : RuleValue) (rules : List RuleValue) (first : ℕ) → p rule ≡ false → Found p (place + 1) rules first → Found p place (rule ∷ rules) first
found_later p place rule rules first fails f = record {
  low = let le = f.low in omega arith;
  within = let lt = f.within in omega arith;
  passes = (f.passes.0, get_later place first rule rules f.low ∙ f.passes.1, f.passes.2);
  list = rw (fails, drop_later place first rule rules f.low) f.list;
}

pub found : (p : RuleValue → Bool) (place : ℕ) (rules : List RuleValue) (first : ℕ) → first_from p place rules ≡ Some first → Found p place rules first
found p place [] first e = absurd cc
found p place (rule ∷ rules) first e = by (p rule) refl e (found p (place + 1) rules first)
  where
    by : (b : Bool) → p rule ≡ b → (if b then Some place else first_from p (place + 1) rules) ≡ Some first
        → (first_from p (place + 1) rules ≡ Some first → Found p (place + 1) rules first) → Found p place (rule ∷ rules) first
    by true passes e more = let same : place ≡ first = cc in subst (Found p place (rule ∷ rules)) same (found_here p place rule rules passes)
    by false fails e more = found_later p place rule rules first fails (more e)

pub nowhere : (p : RuleValue → Bool) (place : ℕ) (rules : List RuleValue) → first_from p place rules ≡ None → places_from p place rules ≡ []
nowhere p place [] e = refl
nowhere p place (rule ∷ rules) e = by (p rule) refl e (nowhere p (place + 1) rules)
  where
    by : (b : Bool) → p rule ≡ b → (if b then Some place else first_from p (place + 1) rules) ≡ None
        → (first_from p (place + 1) rules ≡ None → places_from p (place + 1) rules ≡ []) → places_from p place (rule ∷ rules) ≡ []
    by true passes e more = absurd cc
    by false fails e more = rw fails (more e)

-- ---- of two classes

-- a place that lies before all others
least_left : (place : ℕ) (other : Option ℕ) → ((at : ℕ) → other ≡ Some at → place ≤ at) → Some place ≡ least_of (Some place) other
least_left place None low = refl
least_left place (Some at) low = let le = low at refl in let first : min place at ≡ place = omega arith in rw first refl

least_right : (place : ℕ) (other : Option ℕ) → ((at : ℕ) → other ≡ Some at → place ≤ at) → Some place ≡ least_of other (Some place)
least_right place None low = refl
least_right place (Some at) low = let le = low at refl in let first : min at place ≡ place = omega arith in rw first refl

low_of : (p : RuleValue → Bool) (place : ℕ) (rules : List RuleValue) (at : ℕ) → first_from p (place + 1) rules ≡ Some at → place ≤ at
low_of p place rules at e = let f = found p (place + 1) rules at e in let le = f.low in omega arith

pub first_of_both : (p q : RuleValue → Bool) (place : ℕ) (rules : List RuleValue) → first_from (λ rule. p rule || q rule) place rules ≡ least_of (first_from p place rules) (first_from q place rules)
first_of_both p q place [] = refl
first_of_both p q place (rule ∷ rules) = by (p rule) (q rule) (first_of_both p q (place + 1) rules)
  where
    by : (b c : Bool) → first_from (λ rule. p rule || q rule) (place + 1) rules ≡ least_of (first_from p (place + 1) rules) (first_from q (place + 1) rules)
        → (if b || c then Some place else first_from (λ rule. p rule || q rule) (place + 1) rules)
        ≡ least_of (if b then Some place else first_from p (place + 1) rules) (if c then Some place else first_from q (place + 1) rules)
    by true true more = least_left place (Some place) (λ at e. let same : place ≡ at = cc in omega (arith, same))
    by true false more = least_left place (first_from q (place + 1) rules) (low_of q place rules)
    by false true more = least_right place (first_from p (place + 1) rules) (low_of p place rules)
    by false false more = more

-- ---- behind a place

-- what stands behind a place, of what stands from one before it on
pub drop_behind : (rules : List RuleValue) (from place : ℕ) → from ≤ place → drop (place + 1 - from) (drop from rules) ≡ drop (place + 1) rules
drop_behind rules from place le = drop-drop (place + 1 - from) from rules ∙ ap (λ k. drop k rules) (omega arith)

-- a first place behind another is the first behind that
kept_from : (p : RuleValue → Bool) (place : ℕ) (rules : List RuleValue) (j : ℕ) (first : Option ℕ) → place ≤ j → first_from p place rules ≡ first
    → ((at : ℕ) → first ≡ Some at → j < at) → first_from p (j + 1) (drop (j + 1 - place) rules) ≡ first
kept_from p place [] j first le e later = ap (first_from p (j + 1)) (drop-nil (j + 1 - place)) ∙ e
kept_from p place (rule ∷ rules) j first le e later = by (p rule) e (cases_lt place j) (kept_from p (place + 1) rules j first)
  where
    by : (b : Bool) → (if b then Some place else first_from p (place + 1) rules) ≡ first → (place < j) ⊎ (j ≤ place)
        → (place + 1 ≤ j → first_from p (place + 1) rules ≡ first → ((at : ℕ) → first ≡ Some at → j < at) → first_from p (j + 1) (drop (j + 1 - (place + 1)) rules) ≡ first)
        → first_from p (j + 1) (drop (j + 1 - place) (rule ∷ rules)) ≡ first
    by true e cut more = let lt = later place (sym e) in absurd (omega arith)
    by false e (inl lt) more = rw (drop_later place j rule rules (omega arith)) (more (omega arith) e later)
    by false e (inr ge) more = let same : place ≡ j = omega arith in rw (← same, drop_one) e

pub behind_other : (rules : List RuleValue) (class from place : ℕ) (first : Option ℕ) → from ≤ place → IsFirst rules class from first
    → ((at : ℕ) → first ≡ Some at → place < at) → IsFirst rules class (place + 1) first
behind_other rules class from place first le is later =
    sym (kept_from (has_class class) from (drop from rules) place first le (sym is) later)
    ∙ ap (first_from (has_class class) (place + 1)) (drop_behind rules from place le)

get_drop : (rules : List RuleValue) (n k : ℕ) → slice_get (drop n rules) k ≡ slice_get rules (n + k)
get_drop [] n k = rw (drop-nil n) refl
get_drop (rule ∷ rules) zero k = let same : 0 + k ≡ k = omega arith in rw same refl
get_drop (rule ∷ rules) (suc n) k = let more : suc n + k ≡ suc (n + k) = omega arith in rw more (get_drop rules n k)

-- the rule at the first place of those from a place on
pub rule_at : (rules : List RuleValue) (from place : ℕ) (rule : RuleValue) → from ≤ place → slice_get (drop from rules) (place - from) ≡ Some rule → slice_get rules place ≡ Some rule
rule_at rules from place rule le e = let same : from + (place - from) ≡ place = omega arith in ap (slice_get rules) (sym same) ∙ sym (get_drop rules from (place - from)) ∙ e

-- the next place of a class behind the first
pub behind_own : (rules : List RuleValue) (class from place : ℕ) (next : Option ℕ) → from ≤ place → IsFirst rules class from (Some place)
    → ((rule : RuleValue) → slice_get rules place ≡ Some rule → next ≡ first_from (has_class (class_of_rule rule)) (place + 1) (drop (place + 1) rules))
    → IsFirst rules class (place + 1) next
behind_own rules class from place next le is nexts =
    let f = found (has_class class) from (drop from rules) place (sym is) in
    let same : class_of_rule f.passes.0 ≡ class = eqb-true _ _ f.passes.2 in
    nexts f.passes.0 (rule_at rules from place f.passes.0 le f.passes.1) ∙ ap (λ c. first_from (has_class c) (place + 1) (drop (place + 1) rules)) same

-- ---- the next place of two classes

-- neither of two places lies before the lower one
pub least_low : (own common : Option ℕ) (place : ℕ) → least_of own common ≡ Some place → IfSome own (λ at. place ≤ at) × IfSome common (λ at. place ≤ at)
least_low None None place e = absurd cc
least_low None (Some b) place e = let same : b ≡ place = cc in (tt, omega (arith, same))
least_low (Some a) None place e = let same : a ≡ place = cc in (omega (arith, same), tt)
least_low (Some a) (Some b) place e = let same : min a b ≡ place = cc in (omega (arith, same), omega (arith, same))

-- what is known of the lower of the first places of a class and of class 0
pub record Next (rules : List RuleValue) (class from place : ℕ) : Type 0 where
  pub low : from ≤ place
  pub within : place < length rules
  pub list : places_from (may_fit class) from (drop from rules) ≡ place ∷ places_from (may_fit class) (place + 1) (drop (place + 1) rules)

first_fits : (rules : List RuleValue) (class from : ℕ) (own common first : Option ℕ) → IsFirst rules class from own → IsFirst rules 0 from common → first ≡ least_of own common
    → first_from (may_fit class) from (drop from rules) ≡ first
first_fits rules class from own common first is_own is_common least =
    first_of_both (has_class class) (has_class 0) from (drop from rules) ∙ sym (rw (← is_own, ← is_common) least)

pub next_place : (rules : List RuleValue) (class from : ℕ) (own common : Option ℕ) (place : ℕ) → IsFirst rules class from own → IsFirst rules 0 from common → Some place ≡ least_of own common
    → Next rules class from place
next_place rules class from own common place is_own is_common least =
    let f = found (may_fit class) from (drop from rules) place (first_fits rules class from own common (Some place) is_own is_common least) in
    record {
      low = f.low;
      within = slice_get_within rules place f.passes.0 (rule_at rules from place f.passes.0 f.low f.passes.1);
      list = f.list ∙ ap (λ rest. place ∷ places_from (may_fit class) (place + 1) rest) (drop_behind rules from place f.low);
    }

pub no_next : (rules : List RuleValue) (class from : ℕ) (own common : Option ℕ) → IsFirst rules class from own → IsFirst rules 0 from common → None ≡ least_of own common
    → places_from (may_fit class) from (drop from rules) ≡ []
no_next rules class from own common is_own is_common least = nowhere (may_fit class) from (drop from rules) (first_fits rules class from own common None is_own is_common least)

-- all places are those of rules
pub places_within : (p : RuleValue → Bool) (place bound : ℕ) (rules : List RuleValue) → place + length rules ≤ bound → All (λ at. at < bound) (places_from p place rules)
places_within p place bound [] le = All-nil (λ at. at < bound)
places_within p place bound (rule ∷ rules) le = by (p rule) (places_within p (place + 1) bound rules (omega arith))
  where
    by : (b : Bool) → All (λ at. at < bound) (places_from p (place + 1) rules) → All (λ at. at < bound) (if b then place ∷ places_from p (place + 1) rules else places_from p (place + 1) rules)
    by true more = All-cons (λ at. at < bound) place (places_from p (place + 1) rules) (omega arith) more
    by false more = more

-- a place that is not the lower one lies behind it
pub apart : (place at k : ℕ) → place ≤ at → (at ≡ place → ⊥) → Some at ≡ Some k → place < k
apart place at k le other e = by (cases_lt place at)
  where
    by : (place < at) ⊎ (at ≤ place) → place < k
    by (inl lt) = let same : at ≡ k = cc in omega (arith, same)
    by (inr ge) = absurd (other (omega arith))
