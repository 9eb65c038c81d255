-- A list in order of time, whose elements of one time stand as they came, is settled by these.
use Rattle.std.proofs.Common.{◌≡◌, ◌≢◌, inl, inr, ℕ, suc, ◌<◌, ◌≤◌, ◌==◌, nat_le, Bool, true, false, cond, not, ◌&&◌, pos, Ordering, is_lt, if◌then◌else◌, List, [], ◌∷◌, filter, length, get_or, refl, sym, ap, ◌∙◌, arith}
use Rattle.std.proofs.lemmas.Bool.{eqb-true, leb-true, leb-false, cases_order, cases_Bool}
use Rattle.std.proofs.lemmas.Bool.Decides.{eqb_tells, nat_tests}
use Rattle.std.proofs.lemmas.List.Sorted.{IsNonDecreasingBy-from_sort}
use Rattle.std.specs.List.Sorted.{IsNonDecreasingBy, IsSorted, IsStable, ties}
use Rattle.std.specs.Ordering.{nat_cmp, on}
use Rattle.aggregate_front.specs.declared.timed_value.TimedValue.{TimedValue}
use Rattle.aggregate_front.specs.TimeOrder.{put_in_time, in_time_order}

eqb-other : (a b : ℕ) → a ≢ b → (a == b) ≡ false
eqb-other a b ne = elim (eqb_tells a b) [ inl s ↦ absurd (ne s.1) | inr o ↦ o.0 ]

eqb-same : (a b : ℕ) → a ≡ b → (a == b) ≡ true
eqb-same a b e = elim (eqb_tells a b) [ inl s ↦ s.0 | inr o ↦ absurd (o.1 e) ]

-- no point is earlier than the one before it, and the first not earlier than this
abbrev pub From : ℕ → List TimedValue → Type 0
From t [] = Unit {0}
From t (p ∷ ps) = (t ≤ p.time) × From p.time ps

abbrev pub at_time : ℕ → TimedValue → Bool
at_time t p = p.time == t

-- points that are all later than a time
none_at : (t s : ℕ) (ps : List TimedValue) → t < s → From s ps → filter (at_time t) ps ≡ []
none_at t s [] lt up = refl
none_at t s (p ∷ ps) lt up = rw (eqb-other p.time t (omega (arith, up.0))) (none_at t p.time ps (omega (arith, up.0)) up.1)

first_at : (p : TimedValue) (ps : List TimedValue) → filter (at_time p.time) (p ∷ ps) ≡ p ∷ filter (at_time p.time) ps
first_at p ps = rw (eqb-same p.time p.time refl) refl

cons_parts : (p q : TimedValue) (ps qs : List TimedValue) → p ∷ ps ≡ q ∷ qs → (p ≡ q) × (ps ≡ qs)
cons_parts p q ps qs e = (cc, cc)

rest_at : (p q : TimedValue) (ps qs : List TimedValue) (t : ℕ) (b : Bool) → (p.time == t) ≡ b → (q.time == t) ≡ b
    → filter (at_time t) (p ∷ ps) ≡ filter (at_time t) (q ∷ qs) → filter (at_time t) ps ≡ filter (at_time t) qs
rest_at p q ps qs t true e f same = (cons_parts p q _ _ (rw (e, f) at same)).1
rest_at p q ps qs t false e f same = rw (e, f) at same

pub same_by_times : (s t : ℕ) (ps qs : List TimedValue) → From s ps → From t qs
    → ((k : ℕ) → filter (at_time k) ps ≡ filter (at_time k) qs) → ps ≡ qs
same_by_times s t [] [] up down same = refl
same_by_times s t [] (q ∷ qs) up down same = let e : [] ≡ q ∷ filter (at_time q.time) qs = same q.time ∙ first_at q qs in absurd cc
same_by_times s t (p ∷ ps) [] up down same = let e : p ∷ filter (at_time p.time) ps ≡ [] = sym (first_at p ps) ∙ same p.time in absurd cc
same_by_times s t (p ∷ ps) (q ∷ qs) up down same = elim (cases_order p.time q.time) [
  | inl e ↦
      let head : p ≡ q = (cons_parts p q _ _ (sym (first_at p ps) ∙ same p.time ∙ ap (λ (k : ℕ). filter (at_time k) (q ∷ qs)) e ∙ first_at q qs)).0 in
      let rest : ps ≡ qs = same_by_times p.time q.time ps qs up.1 down.1
      (λ k. rest_at p q ps qs k (p.time == k) refl (ap (λ (n : ℕ). n == k) (sym e)) (same k)) in
      λ j. head j ∷ rest j
  | inr o ↦ elim o [
    | inl lt ↦
        let e : p ∷ filter (at_time p.time) ps ≡ [] = sym (first_at p ps) ∙ same p.time ∙ none_at p.time q.time (q ∷ qs) lt (omega arith, down.1) in absurd cc
    | inr gt ↦
        let e : [] ≡ q ∷ filter (at_time q.time) qs = sym (none_at q.time p.time (p ∷ ps) gt (omega arith, up.1)) ∙ same q.time ∙ first_at q qs in absurd cc
  ]
]

-- ---- the order of the definition

put_from : (s : ℕ) (p : TimedValue) (ps : List TimedValue) → s ≤ p.time → From s ps → From s (put_in_time p ps)
unfolding put_in_time
put_from s p [] le up = (le, tt)
put_from s p (q ∷ qs) le up = elim (cases_Bool (nat_le p.time q.time)) [
  | inl early ↦ rw early (le, (leb-true p.time q.time early, up.1))
  | inr no_ ↦ rw no_ (up.0, put_from q.time p qs (omega (arith, leb-false p.time q.time no_)) up.1)
]

pub order_from : (ps : List TimedValue) → From 0 (in_time_order ps)
unfolding in_time_order
order_from [] = tt
order_from (p ∷ ps) = put_from 0 p (in_time_order ps) (omega arith) (order_from ps)

-- points of two times may change places
swap_at : (t : ℕ) (p q : TimedValue) (ps : List TimedValue) (b c : Bool) → q.time < p.time → (p.time == t) ≡ b → (q.time == t) ≡ c
    → filter (at_time t) (q ∷ p ∷ ps) ≡ filter (at_time t) (p ∷ q ∷ ps)
swap_at t p q ps true true lt e f = let a : p.time ≡ t = eqb-true p.time t e in let b : q.time ≡ t = eqb-true q.time t f in absurd (omega arith)
swap_at t p q ps true false lt e f = rw (e, f) refl
swap_at t p q ps false c lt e f = rw e refl

put_at : (t : ℕ) (p : TimedValue) (ps : List TimedValue) → filter (at_time t) (put_in_time p ps) ≡ filter (at_time t) (p ∷ ps)
unfolding put_in_time
put_at t p [] = refl
put_at t p (q ∷ qs) = elim (cases_Bool (nat_le p.time q.time)) [
  | inl early ↦ rw early refl
  | inr no_ ↦ rw no_ (both (q.time == t) refl (put_at t p qs) ∙ swap_at t p q qs (p.time == t) (q.time == t) (omega (arith, leb-false p.time q.time no_)) refl refl)
]
  where
    both : (c : Bool) → (q.time == t) ≡ c → filter (at_time t) (put_in_time p qs) ≡ filter (at_time t) (p ∷ qs)
        → filter (at_time t) (q ∷ put_in_time p qs) ≡ filter (at_time t) (q ∷ p ∷ qs)
    both true f more = rw f (ap (λ l. q ∷ l) more)
    both false f more = rw f more

pub order_at : (t : ℕ) (ps : List TimedValue) → filter (at_time t) (in_time_order ps) ≡ filter (at_time t) ps
unfolding in_time_order
order_at t [] = refl
order_at t (p ∷ ps) = put_at t p (in_time_order ps) ∙ more (p.time == t) refl (order_at t ps)
  where
    more : (c : Bool) → (p.time == t) ≡ c → filter (at_time t) (in_time_order ps) ≡ filter (at_time t) ps → filter (at_time t) (p ∷ in_time_order ps) ≡ filter (at_time t) (p ∷ ps)
    more true f rest = rw f (ap (λ l. p ∷ l) rest)
    more false f rest = rw f rest

-- ---- a stable sort by time gives it

from_rising : (s : ℕ) (ps : List TimedValue) → IsNonDecreasingBy (λ p. p.time) ps → ((d : TimedValue) → 0 < length ps → s ≤ (get_or ps 0 d).time) → From s ps
from_rising s [] up low = tt
from_rising s (p ∷ ps) up low =
    (low p (omega arith), from_rising p.time ps (λ i j d le lt. up (suc i) (suc j) d (omega arith) (omega arith)) (λ d some. up 0 1 d (omega arith) (omega arith)))

filter_alike : (p q : TimedValue → Bool) → ((x : TimedValue) → p x ≡ q x) → (ps : List TimedValue) → filter p ps ≡ filter q ps
filter_alike p q same [] = refl
filter_alike p q same (x ∷ ps) = let rest = filter_alike p q same ps in λ j. cond (same x j) (x ∷ rest j) (rest j)

ties_at : (k t : ℕ) → (not (is_lt (nat_cmp k t)) && not (is_lt (nat_cmp t k))) ≡ (t == k)
ties_at k t = grind (arith, nat_tests)

abbrev pub by_time : TimedValue → TimedValue → Ordering
by_time = on (λ p. p.time) nat_cmp

pub sorted_in_time : (ps qs : List TimedValue) → IsSorted by_time qs → IsStable by_time ps qs → qs ≡ in_time_order ps
sorted_in_time ps qs sorted stable =
    same_by_times 0 0 qs (in_time_order ps)
    (from_rising 0 qs (IsNonDecreasingBy-from_sort (λ p. p.time) qs sorted) (λ d some. omega arith))
    (order_from ps)
    (λ k. at_each k ∙ sym (order_at k ps))
  where
    at_each : (k : ℕ) → filter (at_time k) qs ≡ filter (at_time k) ps
    at_each k =
        let one : TimedValue = record { time = k; value = pos 0 } in
        let alike = filter_alike (ties (λ x y. is_lt (by_time x y)) one) (at_time k) (λ x. ties_at k x.time) in
        sym (alike qs) ∙ stable one ∙ alike ps

length_put : (p : TimedValue) (ps : List TimedValue) → length (put_in_time p ps) ≡ suc (length ps)
unfolding put_in_time
length_put p [] = refl
length_put p (q ∷ qs) = by (nat_le p.time q.time) (length_put p qs)
  where
    by : (b : Bool) → length (put_in_time p qs) ≡ suc (length qs) → length (if b then p ∷ q ∷ qs else q ∷ put_in_time p qs) ≡ suc (suc (length qs))
    by true rest = refl
    by false rest = ap suc rest

pub length_in_time : (ps : List TimedValue) → length (in_time_order ps) ≡ length ps
unfolding in_time_order
length_in_time [] = refl
length_in_time (p ∷ ps) = length_put p (in_time_order ps) ∙ ap suc (length_in_time ps)
