-- Picks, and the queue in its order.
use Rattle.std.proofs.Common.{◌≡◌, ◌∙◌, ◌+◌, ℕ, Bool, true, false, if◌then◌else◌, List, [], ◌∷◌, None, Some, length, get_or, slice_get, suc, zero, refl, sym, ap, subst, arith, is_some, true≢false, unwrap_or}
use Rattle.std.specs.declared.cmp.Ordering.{Ordering}
use Rattle.std.specs.Cmp.{IsTotalOrder, IsStrictWeakOrder}
use Rattle.std.specs.Ordering.{is_lt}
use Rattle.std.specs.Option.{option_map}
use Rattle.std.specs.List.{best_of}
use Rattle.std.specs.List.Sorted.{IsPermutation, IsSortedBy}
use Rattle.std.proofs.lemmas.Cmp.{back_total, nat_cmp_total, nat_list_cmp_total, on_total, then_total}
use Rattle.std.proofs.lemmas.List.{get_or_default}
use Rattle.std.proofs.lemmas.List.MinMax.{IsFirstBest-from_best_of}
use Rattle.std.proofs.lemmas.List.Sorted.{IsPermutation-cons, IsPermutation-middle, IsPermutation-refl, IsPermutation-trans, ranks_by}
use Rattle.point_cache.specs.Pending.{Metrics, paths_of}
use Rattle.drain_order.specs.Pick.{AllPending, IsFirst, IsInOrder, Metric, by_age, by_count, first_by, insert_by, oldest, pick, queue_now, sorted_by}
use Rattle.drain_order.specs.declared.strategy.Strategy.{Strategy}
use Rattle.drain_order.specs.declared.strategy.Strategy.TheVariants.{Max, Sorted, TimeSorted, Naive}

none_is_some : {A : Type 0} {x : A} → None ≡ Some x → ⊥
none_is_some e = true≢false (sym (ap is_some e))

pub by_count_total : IsTotalOrder by_count
by_count_total = then_total (back_total (on_total (λ (m : Metric). length m.1) nat_cmp_total)) (on_total (λ (m : Metric). m.0) nat_list_cmp_total)

pub by_age_total : IsTotalOrder by_age
by_age_total = then_total (on_total (λ (m : Metric). oldest m.1) nat_cmp_total) (on_total (λ (m : Metric). m.0) nat_list_cmp_total)

-- a total order as a test
pub ranks : (order : Metric → Metric → Ordering) → IsTotalOrder order → IsStrictWeakOrder (λ a b. is_lt (order a b))
ranks order o = ranks_by o (λ (m : Metric). m)

-- none goes before the first
pub first_is : (order : Metric → Metric → Ordering) → IsTotalOrder order → (metrics : Metrics) (path : List ℕ)
    → option_map (λ (m : Metric). m.0) (first_by order metrics) ≡ Some path → IsFirst order metrics path
first_is order o [] path h = absurd (none_is_some h)
first_is order o (x ∷ xs) path h =
    let best = best_of (λ a b. is_lt (order a b)) x xs in
    let found = IsFirstBest-from_best_of (ranks order o) x xs in
    let here : (d : Metric) → get_or (x ∷ xs) found.0 d ≡ best = λ d. get_or_default (x ∷ xs) found.0 d x found.1.0 ∙ found.2 in
    record {
      metric = best;
      named = ap (λ q. unwrap_or q path) h;
      among = (found.0, found.1.0, here best);
      first = λ k d lt. subst (λ (m : Metric). is_lt (order (get_or (x ∷ xs) k d) m) ≡ false) (here d) (found.1.1 k d lt);
    }

pub max_is_first : (queue : List (List ℕ)) (metrics : Metrics) (path : List ℕ) → pick Max queue metrics ≡ Some path → IsFirst by_count metrics path
max_is_first queue metrics path h = first_is by_count by_count_total metrics path h

pub timesorted_is_first : (queue : List (List ℕ)) (metrics : Metrics) (path : List ℕ) → pick TimeSorted queue metrics ≡ Some path → IsFirst by_age metrics path
timesorted_is_first queue metrics path h = first_is by_age by_age_total metrics path h

-- one more metric in its order
inserted_all : (order : Metric → Metric → Ordering) (m : Metric) (xs : Metrics) → IsPermutation (m ∷ xs) (insert_by order m xs)
inserted_all order m [] = IsPermutation-refl (m ∷ [])
inserted_all order m (x ∷ xs) = by (is_lt (order x m)) (inserted_all order m xs)
  where
    by : (b : Bool) → IsPermutation (m ∷ xs) (insert_by order m xs) → IsPermutation (m ∷ x ∷ xs) (if b then x ∷ insert_by order m xs else m ∷ x ∷ xs)
    by true more = IsPermutation-trans _ _ _ (IsPermutation-middle (m ∷ []) x xs) (IsPermutation-cons x _ _ more)
    by false more = IsPermutation-refl _

pub sorted_all : (order : Metric → Metric → Ordering) (xs : Metrics) → IsPermutation xs (sorted_by order xs)
sorted_all order [] = IsPermutation-refl []
sorted_all order (x ∷ xs) = IsPermutation-trans _ _ _ (IsPermutation-cons x _ _ (sorted_all order xs)) (inserted_all order x (sorted_by order xs))

-- no element is less than the one before it, of x and those behind it
abbrev pub RisesFrom : {X : Type 0} → (X → X → Bool) → X → List X → Type 0
RisesFrom lt x [] = Unit {0}
RisesFrom lt x (y ∷ ys) = (lt y x ≡ false) × RisesFrom lt y ys

abbrev pub Rises : {X : Type 0} → (X → X → Bool) → List X → Type 0
Rises lt [] = Unit {0}
Rises lt (x ∷ xs) = RisesFrom lt x xs

pub sorted_from_rises : {X : Type 0} (lt : X → X → Bool) (xs : List X) → Rises lt xs → IsSortedBy lt xs
sorted_from_rises lt [] up k d low high = absurd (omega arith)
sorted_from_rises lt (x ∷ []) up k d low high = absurd (omega arith)
sorted_from_rises lt (x ∷ y ∷ ys) up zero d low high = up.0
sorted_from_rises lt (x ∷ y ∷ ys) up (suc k) d low high = let e : suc k + 1 ≡ suc (k + 1) = omega arith in rw e (sorted_from_rises lt (y ∷ ys) up.1 k d (omega arith) (omega arith))

inserted_from : (order : Metric → Metric → Ordering) → IsStrictWeakOrder (λ a b. is_lt (order a b)) → (m x : Metric) (xs : Metrics)
    → RisesFrom (λ a b. is_lt (order a b)) x xs → is_lt (order m x) ≡ false → RisesFrom (λ a b. is_lt (order a b)) x (insert_by order m xs)
inserted_from order o m x [] up not_before = (not_before, tt)
inserted_from order o m x (y ∷ ys) up not_before = by (is_lt (order y m)) refl (λ h. inserted_from order o m y ys up.1 h)
  where
    by : (b : Bool) → is_lt (order y m) ≡ b → (is_lt (order m y) ≡ false → RisesFrom (λ a b. is_lt (order a b)) y (insert_by order m ys))
        → RisesFrom (λ a b. is_lt (order a b)) x (if b then y ∷ insert_by order m ys else m ∷ y ∷ ys)
    by true e more = (up.0, more (o.one_way y m e))
    by false e more = (not_before, (e, up.1))

inserted_rises : (order : Metric → Metric → Ordering) → IsStrictWeakOrder (λ a b. is_lt (order a b)) → (m : Metric) (xs : Metrics)
    → Rises (λ a b. is_lt (order a b)) xs → Rises (λ a b. is_lt (order a b)) (insert_by order m xs)
inserted_rises order o m [] up = tt
inserted_rises order o m (x ∷ xs) up = by (is_lt (order x m)) refl
  where
    by : (b : Bool) → is_lt (order x m) ≡ b → Rises (λ a b. is_lt (order a b)) (if b then x ∷ insert_by order m xs else m ∷ x ∷ xs)
    by true e = inserted_from order o m x xs up (o.one_way x m e)
    by false e = (e, up)

pub sorted_rises : (order : Metric → Metric → Ordering) → IsStrictWeakOrder (λ a b. is_lt (order a b)) → (xs : Metrics)
    → Rises (λ a b. is_lt (order a b)) (sorted_by order xs)
sorted_rises order o [] = tt
sorted_rises order o (x ∷ xs) = inserted_rises order o x (sorted_by order xs) (sorted_rises order o xs)

pub made_in_order : (metrics : Metrics) → IsInOrder by_count metrics (queue_now [] metrics)
made_in_order metrics = record {
  ordered = sorted_by by_count metrics;
  paths_of_them = refl;
  all = sorted_all by_count metrics;
  order_kept = sorted_from_rises (λ a b. is_lt (by_count a b)) (sorted_by by_count metrics) (sorted_rises by_count (ranks by_count by_count_total) metrics);
}

-- where a metric was put in there is a first
inserted_some : (order : Metric → Metric → Ordering) (m : Metric) (xs : Metrics) → slice_get (paths_of (insert_by order m xs)) 0 ≡ None → ⊥
inserted_some order m [] h = none_is_some (sym h)
inserted_some order m (x ∷ xs) h = by (is_lt (order x m)) h
  where
    by : (b : Bool) → slice_get (paths_of (if b then x ∷ insert_by order m xs else m ∷ x ∷ xs)) 0 ≡ None → ⊥
    by true h = none_is_some (sym h)
    by false h = none_is_some (sym h)

pub none_then_empty : (strategy : Strategy) (queue : List (List ℕ)) (metrics : Metrics) → pick strategy queue metrics ≡ None → metrics ≡ []
none_then_empty strategy queue [] h = refl
none_then_empty Max queue (m ∷ ms) h = absurd (none_is_some (sym h))
none_then_empty Sorted [] (m ∷ ms) h = absurd (inserted_some by_count m (sorted_by by_count ms) h)
none_then_empty Sorted (path ∷ paths) (m ∷ ms) h = absurd (none_is_some (sym h))
none_then_empty TimeSorted queue (m ∷ ms) h = absurd (none_is_some (sym h))
none_then_empty Naive queue (m ∷ ms) h = absurd (none_is_some (sym h))

pub empty_then_none : (strategy : Strategy) (queue : List (List ℕ)) → AllPending queue [] → pick strategy queue [] ≡ None
empty_then_none Max queue all = refl
empty_then_none Sorted [] all = refl
empty_then_none Sorted (path ∷ paths) all = absurd (true≢false (sym (all 0 path (omega arith))))
empty_then_none TimeSorted queue all = refl
empty_then_none Naive queue all = refl
