-- The index of rules, built from the last rule to the first.
use Rattle.std.proofs.Common.{◌≡◌, ◌∙◌, ◌⊎◌, inl, inr, ◌+◌, ◌<◌, ◌≤◌, ◌==◌, ℕ, zero, suc, Bool, true, false, List, [], ◌∷◌, drop, get_or, length, replicate, set, slice_get, Option, Some, None, refl, sym, ap, subst, arith}
use Rattle.std.proofs.lemmas.Bool.{cases_lt, eqb-true}
use Rattle.std.proofs.lemmas.Bool.Decides.{nat_tests}
use Rattle.std.proofs.lemmas.List.{drop_all, drop_more, length-replicate, length-set}
use Rattle.std.proofs.lemmas.Option.{get_or_from_slice_get, slice_get_within}
use Rattle.aggregate_rules.specs.RuleTexts.{RuleValue}
use Rattle.aggregate_rules.specs.RulePlaces.{IndexValue, IsIndexFrom, class_of_rule, empty_index, first_from, front_classes, has_class, with_rule}

get_set_same : {X : Type 0} (xs : List X) (i : ℕ) (x : X) → i < length xs → slice_get (set xs i x) i ≡ Some x
get_set_same [] i x lt = absurd (omega arith)
get_set_same (y ∷ ys) zero x lt = refl
get_set_same (y ∷ ys) (suc i) x lt = get_set_same ys i x (omega arith)

get_set_other : {X : Type 0} (xs : List X) (i k : ℕ) (x : X) → (i == k) ≡ false → slice_get (set xs i x) k ≡ slice_get xs k
get_set_other [] i k x other = refl
get_set_other (y ∷ ys) zero zero x other = absurd cc
get_set_other (y ∷ ys) zero (suc k) x other = refl
get_set_other (y ∷ ys) (suc i) zero x other = refl
get_set_other (y ∷ ys) (suc i) (suc k) x other = get_set_other ys i k x (grind (arith, nat_tests))

get_replicate : {X : Type 0} (n i : ℕ) (x : X) → i < n → slice_get (replicate n x) i ≡ Some x
get_replicate zero i x lt = absurd (omega arith)
get_replicate (suc n) zero x lt = refl
get_replicate (suc n) (suc i) x lt = get_replicate n i x (omega arith)

-- the rules from a place on are the rule there and those behind it
cut_at : (rules : List RuleValue) (place : ℕ) (rule : RuleValue) → slice_get rules place ≡ Some rule → drop place rules ≡ rule ∷ drop (place + 1) rules
cut_at rules place rule at = drop_more rules place rule (slice_get_within rules place rule at) ∙ ap (λ r. r ∷ drop (place + 1) rules) (get_or_from_slice_get rules place rule rule at)

pub empty_is : (rules : List RuleValue) → IsIndexFrom rules (length rules) (empty_index front_classes (length rules))
empty_is rules =
    let none : drop (length rules) rules ≡ [] = drop_all (length rules) rules (omega arith) in
    record {
      classes = length-replicate {A = Option ℕ} front_classes None;
      firsts = λ class lt. rw none (get_replicate {X = Option ℕ} front_classes class None lt);
      count = length-replicate {A = Option ℕ} (length rules) None;
      nexts = λ i rule le at. let within = slice_get_within rules i rule at in absurd (omega arith);
    }

-- ---- a rule more in front of the others

module _ (rules : List RuleValue) (place : ℕ) (index : IndexValue) (rule : RuleValue) (at : slice_get rules place ≡ Some rule) (few : class_of_rule rule < front_classes)
    (is : IsIndexFrom rules (place + 1) index) where
  own_first : slice_get index.firsts (class_of_rule rule) ≡ Some (first_from (has_class (class_of_rule rule)) (place + 1) (drop (place + 1) rules))
  own_first = is.firsts (class_of_rule rule) few

  firsts_by : (class : ℕ) (b : Bool) → (class_of_rule rule == class) ≡ b → class < front_classes
      → slice_get (with_rule index place (class_of_rule rule)).firsts class ≡ Some (first_from (has_class class) place (rule ∷ drop (place + 1) rules))
  firsts_by class true e lt =
      let same : (class_of_rule rule) ≡ class = eqb-true _ _ e in
      let within : (class_of_rule rule) < length index.firsts = omega (arith, is.classes) in
      rw e (subst (λ (c : ℕ). slice_get (set index.firsts (class_of_rule rule) (Some place)) c ≡ Some (Some place)) same (get_set_same index.firsts (class_of_rule rule) (Some place) within))
  firsts_by class false e lt = rw e (get_set_other index.firsts (class_of_rule rule) class (Some place) e ∙ is.firsts class lt)

  nexts_by : (i : ℕ) (r : RuleValue) → (place < i) ⊎ (i ≤ place) → place ≤ i → slice_get rules i ≡ Some r
      → slice_get (with_rule index place (class_of_rule rule)).nexts i ≡ Some (first_from (has_class (class_of_rule r)) (i + 1) (drop (i + 1) rules))
  nexts_by i r (inl lt) le there =
      let other : (place == i) ≡ false = grind (arith, nat_tests) in
      get_set_other index.nexts place i (get_or index.firsts (class_of_rule rule) None) other ∙ is.nexts i r (omega arith) there
  nexts_by i r (inr ge) le there =
      let same : place ≡ i = omega arith in
      let rule_is : rule ≡ r = let e : Some rule ≡ Some r = sym at ∙ ap (slice_get rules) same ∙ there in cc in
      let within : place < length index.nexts = omega (arith, is.count, slice_get_within rules place rule at) in
      let next : get_or index.firsts (class_of_rule rule) None ≡ first_from (has_class (class_of_rule rule)) (place + 1) (drop (place + 1) rules) = get_or_from_slice_get index.firsts (class_of_rule rule) _ None own_first in
      rw (← same, ← rule_is) (get_set_same index.nexts place (get_or index.firsts (class_of_rule rule) None) within ∙ ap Some next)

  pub with_rule_is : IsIndexFrom rules place (with_rule index place (class_of_rule rule))
  with_rule_is = record {
    classes = length-set index.firsts (class_of_rule rule) (Some place) ∙ is.classes;
    firsts = λ class lt. rw (cut_at rules place rule at) (firsts_by class (class_of_rule rule == class) refl lt);
    count = length-set index.nexts place (get_or index.firsts (class_of_rule rule) None) ∙ is.count;
    nexts = λ i r le there. nexts_by i r (cases_lt place i) le there;
  }
