-- A picker follows the metrics: after a put, and after the metric that it picked is taken.
use Rattle.std.proofs.Common.{◌≡◌, ◌∙◌, ◌≤◌, ◌||◌, ◌++◌, ℕ, ℤ, Bool, true, false, cond, if◌then◌else◌, List, [], ◌∷◌, Some, None, Option, Result, Ok, Err, IfOk, IfSome, OnErr, drop, get_or, length, min, slice_get, suc, take, refl, sym, ap, arith, is_some, subst, true≢false}
use Rattle.std.specs.List.{IsDistinct, list_any}
use Rattle.std.specs.Map.{remove_entry}
use Rattle.std.specs.Str.{bytes_eq}
use Rattle.std.proofs.lemmas.Cmp.{nat_list_eq_equiv}
use Rattle.std.proofs.lemmas.List.{length-take, take-append-le, take_all}
use Rattle.std.proofs.lemmas.List.Elements.{All-from_recursion}
use Rattle.std.proofs.lemmas.List.Sorted.{IsPermutation-map}
use Rattle.std.proofs.lemmas.Map.Keys.{IsDistinct-head}
use Rattle.std.proofs.lemmas.Map.Made.{is_some-lookup}
use Rattle.std.proofs.lemmas.Option.{none-some, same_Some}
use Rattle.std.proofs.lemmas.Slice.Eq.{bytes_eq-Decides}
use Rattle.indexmap.specs.IndexMap.{insert_entry}
use Rattle.indexmap.proofs.MapLemmas.{distinct-drop, distinct_permutation, some_index}
use Rattle.indexmap.proofs.SetLemmas.{keys_insert_entry}
use Rattle.point_cache.specs.Pending.{Cache, Metrics, Puts, paths_of, place_of, points_of, with_put}
use Rattle.point_cache.specs.Points.{with_point}
use Rattle.point_cache.specs.declared.put.Put.{Put}
use Rattle.point_cache.specs.declared.put.Put.TheVariants.{Full, NoMemory, Replaced, Stored}
use Rattle.drain_order.specs.Pick.{AllPending, Metric, by_count, queue_after, queue_now}
use Rattle.drain_order.specs.Picking.{Follows, HasQueues, Picking, Picks, settled_with}
use Rattle.drain_order.specs.Rank.{strategy_of}
use Rattle.drain_order.specs.declared.rank.Rank.{Rank}
use Rattle.drain_order.specs.declared.rank.Rank.TheVariants.{Age, Count}
use Rattle.drain_order.specs.declared.strategy.Strategy.{Strategy}
use Rattle.drain_order.specs.declared.strategy.Strategy.TheVariants.{Max, Sorted, TimeSorted, Naive}
use Rattle.drain_order.proofs.PickLemmas.{sorted_all}

-- a path is pending where one of the paths is it
any_is_pending : (metrics : Metrics) (path : List ℕ) → is_some (place_of metrics path) ≡ list_any (bytes_eq path) (paths_of metrics)
any_is_pending metrics path = some_index (bytes_eq path) metrics ∙ is_some-lookup (bytes_eq path) metrics

any_left : (test : List ℕ → Bool) (metrics : Metrics) (taken : List ℕ) → test taken ≡ false → list_any test (paths_of metrics) ≡ true
    → list_any test (paths_of (remove_entry (bytes_eq taken) metrics)) ≡ true
any_left test [] taken other any = absurd (true≢false (sym any))
any_left test (m ∷ ms) taken other any = by (bytes_eq taken m.0) refl (any_left test ms taken other)
  where
    behind : (b : Bool) → (b || list_any test (paths_of ms)) ≡ true
        → (list_any test (paths_of ms) ≡ true → list_any test (paths_of (remove_entry (bytes_eq taken) ms)) ≡ true)
        → (b || list_any test (paths_of (remove_entry (bytes_eq taken) ms))) ≡ true
    behind true any more = refl
    behind false any more = more any

    by : (b : Bool) → bytes_eq taken m.0 ≡ b → (list_any test (paths_of ms) ≡ true → list_any test (paths_of (remove_entry (bytes_eq taken) ms)) ≡ true)
        → list_any test (paths_of (cond b ms (m ∷ remove_entry (bytes_eq taken) ms))) ≡ true
    by true e more =
        let apart : test m.0 ≡ false = ap test (sym ((bytes_eq-Decides taken m.0).0 e)) ∙ other in
        ap (λ b. b || list_any test (paths_of ms)) (sym apart) ∙ any
    by false e more = behind (test m.0) any more

any_put : (test : List ℕ → Bool) (metrics : Metrics) (path : List ℕ) (points : List (ℕ × ℤ)) → list_any test (paths_of metrics) ≡ true
    → list_any test (paths_of (insert_entry bytes_eq metrics path points)) ≡ true
any_put test [] path points any = absurd (true≢false (sym any))
any_put test (m ∷ ms) path points any = by (bytes_eq path m.0) (any_put test ms path points)
  where
    behind : (b : Bool) → (b || list_any test (paths_of ms)) ≡ true → (list_any test (paths_of ms) ≡ true → list_any test (paths_of (insert_entry bytes_eq ms path points)) ≡ true)
        → (b || list_any test (paths_of (insert_entry bytes_eq ms path points))) ≡ true
    behind true any more = refl
    behind false any more = more any

    by : (b : Bool) → (list_any test (paths_of ms) ≡ true → list_any test (paths_of (insert_entry bytes_eq ms path points)) ≡ true)
        → list_any test (paths_of (if b then (m.0, points) ∷ ms else m ∷ insert_entry bytes_eq ms path points)) ≡ true
    by true more = any
    by false more = behind (test m.0) any more

pub put_keeps_pending : (queue : List (List ℕ)) (metrics : Metrics) (path : List ℕ) (time : ℕ) (value : ℤ) → AllPending queue metrics
    → AllPending queue (with_put metrics path time value)
put_keeps_pending queue metrics path time value pending k d lt =
    let q = get_or queue k d in
    any_is_pending (with_put metrics path time value) q ∙ any_put (bytes_eq q) metrics path _ (sym (any_is_pending metrics q) ∙ pending k d lt)

other_bytes : (xs ys : List ℕ) → bytes_eq xs ys ≡ false → bytes_eq ys xs ≡ false
other_bytes xs ys h = by (bytes_eq ys xs) refl
  where
    by : (b : Bool) → bytes_eq ys xs ≡ b → bytes_eq ys xs ≡ false
    by true e = absurd (true≢false (sym ((bytes_eq-Decides xs ys).1 (sym ((bytes_eq-Decides ys xs).0 e))) ∙ h))
    by false e = e

pub front_taken : (metrics : Metrics) (queue : List (List ℕ)) (path : List ℕ) → AllPending queue metrics → IsDistinct bytes_eq queue → slice_get queue 0 ≡ Some path
    → AllPending (drop 1 queue) (remove_entry (bytes_eq path) metrics)
front_taken metrics [] path pending once front k d lt = absurd (omega arith)
front_taken metrics (p ∷ ps) path pending once front k d lt =
    let same : p ≡ path = same_Some p path front in
    let q = get_or ps k d in
    let apart : bytes_eq p q ≡ false = All-from_recursion (λ y. bytes_eq p y ≡ false) ps (IsDistinct-head bytes_eq p ps once) k d lt in
    let apart_from_taken : bytes_eq q path ≡ false = subst (λ (x : List ℕ). bytes_eq q x ≡ false) same (other_bytes p q apart) in
    any_is_pending (remove_entry (bytes_eq path) metrics) q ∙ any_left (bytes_eq q) metrics path apart_from_taken (sym (any_is_pending metrics q) ∙ pending (suc k) d (omega arith))

pub none_pending : (metrics : Metrics) (queue : List (List ℕ)) → queue ≡ [] → AllPending queue metrics
none_pending metrics queue e = subst (λ (q : List (List ℕ)). AllPending q metrics) (sym e) (λ k d lt. absurd (omega arith))

-- the paths that arrived first: none, and what is left of them after a put, and after the first is taken
abbrev pub IsFront : List (List ℕ) → Metrics → Type 0
IsFront arrived metrics = take (length arrived) (paths_of metrics) ≡ arrived

pub none_front : (metrics : Metrics) (arrived : List (List ℕ)) → arrived ≡ [] → IsFront arrived metrics
none_front metrics arrived e = subst (λ (a : List (List ℕ)). IsFront a metrics) (sym e) refl

pub all_front : (metrics : Metrics) → IsFront (paths_of metrics) metrics
all_front metrics = take_all (length (paths_of metrics)) (paths_of metrics) (omega arith)

put_front : (arrived : List (List ℕ)) (metrics : Metrics) (path : List ℕ) (time : ℕ) (value : ℤ) → IsFront arrived metrics → IsFront arrived (with_put metrics path time value)
put_front arrived metrics path time value front =
    ap (take (length arrived)) (keys_insert_entry bytes_eq metrics path (with_point (points_of metrics path) time value)) ∙ by (list_any (bytes_eq path) (paths_of metrics)) ∙ front
  where
    within : length arrived ≤ length (paths_of metrics)
    within = let long : length arrived ≡ min (length arrived) (length (paths_of metrics)) = ap length (sym front) ∙ length-take (length arrived) (paths_of metrics) in omega (arith, long)

    by : (b : Bool) → take (length arrived) (if b then paths_of metrics else paths_of metrics ++ path ∷ []) ≡ take (length arrived) (paths_of metrics)
    by true = refl
    by false = take-append-le (length arrived) (paths_of metrics) (path ∷ []) within

rest_of_front : (arrived : List (List ℕ)) (path : List ℕ) (paths : List (List ℕ)) → take (length arrived) (path ∷ paths) ≡ arrived
    → take (length (drop 1 arrived)) paths ≡ drop 1 arrived
rest_of_front [] path paths front = refl
rest_of_front (a ∷ rest) path paths front = ap (drop 1) front

pub taken_front : (arrived : List (List ℕ)) (metrics : Metrics) (path : List ℕ) → IsFront arrived metrics → slice_get (paths_of metrics) 0 ≡ Some path
    → IsFront (drop 1 arrived) (remove_entry (bytes_eq path) metrics)
taken_front arrived [] path front here = absurd (none-some path here)
taken_front arrived (m ∷ ms) path front here =
    let itself : bytes_eq path m.0 ≡ true = (bytes_eq-Decides path m.0).1 (sym (same_Some m.0 path here)) in
    rw itself (rest_of_front arrived m.0 (paths_of ms) front)

pub front_first : (arrived : List (List ℕ)) (metrics : Metrics) (path : List ℕ) → IsFront arrived metrics → slice_get arrived 0 ≡ Some path → slice_get (paths_of metrics) 0 ≡ Some path
front_first [] metrics path front here = absurd (none-some path here)
front_first (a ∷ rest) [] path front here = let long : 0 ≡ length (a ∷ rest) = ap length front in absurd (omega (arith, long))
front_first (a ∷ rest) (m ∷ ms) path front here = ap (λ (l : List (List ℕ)). slice_get l 0) front ∙ here

-- a new picker follows any metrics
pub new_follows : (strategy : Strategy) (metrics : Metrics) → Follows (record { strategy = strategy; queue = []; arrived = []; settled = None }) metrics
new_follows strategy metrics = record { pending = none_pending metrics [] refl; first = none_front metrics [] refl }

-- a put leaves a picker with the metrics that it follows
pub put_keeps_follows : (picking : Picking) (metrics : Metrics) (path : List ℕ) (time : ℕ) (value : ℤ) → Follows picking metrics → Follows picking (with_put metrics path time value)
put_keeps_follows picking metrics path time value follows = record {
  pending = put_keeps_pending picking.queue metrics path time value follows.pending;
  first = put_front picking.arrived metrics path time value follows.first;
}

pub puts_keep_follows : (picking : Picking) (old new : Cache) (path : List ℕ) (time : ℕ) (value : ℤ) (put : Put) → Puts old new path time value put
    → Follows picking old.metrics → Follows picking new.metrics
puts_keep_follows picking old new path time value Stored puts follows =
    subst (λ (c : Cache). Follows picking c.metrics) (sym puts.1.1) (put_keeps_follows picking old.metrics path time value follows)
puts_keep_follows picking old new path time value Replaced puts follows =
    subst (λ (c : Cache). Follows picking c.metrics) (sym puts.1) (put_keeps_follows picking old.metrics path time value follows)
puts_keep_follows picking old new path time value Full puts follows = subst (λ (c : Cache). Follows picking c.metrics) (sym puts.1.1) follows
puts_keep_follows picking old new path time value NoMemory puts follows = subst (λ (c : Cache). Follows picking c.metrics) (sym puts.1.1) follows

-- a pick leaves a picker with them too
pub pick_keeps_follows : {E : Type 0} (old new : Picking) (cache : Cache) (result : Result (Option ℕ) E) → IfOk result (Picks old new cache) → OnErr result (new ≡ old)
    → Follows old cache.metrics → Follows new cache.metrics
pick_keeps_follows old new cache (Ok place) picks err follows = picks.follows
pick_keeps_follows old new cache (Err e) picks err follows = subst (λ (p : Picking). Follows p cache.metrics) (sym err) follows

-- and its queue as it was
pub pick_keeps_queue : {E : Type 0} (old new : Picking) (cache : Cache) (result : Result (Option ℕ) E) → IfOk result (Picks old new cache) → OnErr result (new ≡ old)
    → new.queue ≡ old.queue
pick_keeps_queue old new cache (Ok place) picks err = picks.queue
pick_keeps_queue old new cache (Err e) picks err = ap (λ (p : Picking). p.queue) err

-- once the metric is taken and the pick is settled, it follows those that are left
pub drained_follows : (old new : Picking) (cache : Cache) (place : ℕ) (path : List ℕ) → Picks old new cache (Some place) → slice_get cache.places place ≡ Some path
    → Follows (settled_with new (queue_after old.strategy old.queue cache.metrics)) (remove_entry (bytes_eq path) cache.metrics)
drained_follows old new cache place path picks here = picks.rest path (sym picks.told.1 ∙ here)

pub settled_follows : (old picked now : Picking) (cache : Cache) (place : ℕ) (path : List ℕ) → Picks old picked cache (Some place) → slice_get cache.places place ≡ Some path
    → IfSome picked.settled (λ queue. now ≡ settled_with picked queue) → Follows now (remove_entry (bytes_eq path) cache.metrics)
settled_follows old picked now cache place path picks here settled =
    let used = subst (λ (s : Option (List (List ℕ))). IfSome s (λ queue. now ≡ settled_with picked queue)) picks.settled settled in
    subst (λ (p : Picking). Follows p (remove_entry (bytes_eq path) cache.metrics)) (sym used) (drained_follows old picked cache place path picks here)

-- a queue that is made has each path once
pub made_once : (metrics : Metrics) → IsDistinct bytes_eq (paths_of metrics) → IsDistinct bytes_eq (queue_now [] metrics)
made_once metrics once = distinct_permutation nat_list_eq_equiv _ _ (IsPermutation-map (λ (m : Metric). m.0) _ _ (sorted_all by_count metrics)) once

pub rest_once : (queue : List (List ℕ)) → IsDistinct bytes_eq queue → IsDistinct bytes_eq (drop 1 queue)
rest_once queue once = distinct-drop nat_list_eq_equiv 1 queue once

pub none_once : IsDistinct bytes_eq []
unfolding IsDistinct
none_once = tt

-- which queues a picker has: none at first, and what is left of them
pub new_queues : (strategy : Strategy) → HasQueues strategy [] []
new_queues Max = (refl, refl)
new_queues Sorted = refl
new_queues TimeSorted = (refl, refl)
new_queues Naive = refl

pub rest_queues : (strategy : Strategy) (queue arrived : List (List ℕ)) → HasQueues strategy queue arrived → HasQueues strategy (drop 1 queue) (drop 1 arrived)
rest_queues Max queue arrived has = (ap (drop 1) has.0, ap (drop 1) has.1)
rest_queues Sorted queue arrived has = ap (drop 1) has
rest_queues TimeSorted queue arrived has = (ap (drop 1) has.0, ap (drop 1) has.1)
rest_queues Naive queue arrived has = ap (drop 1) has

pub ranked_queues : (rank : Rank) (queue arrived : List (List ℕ)) → HasQueues (strategy_of rank) queue arrived → (queue ≡ []) × (arrived ≡ [])
ranked_queues Count queue arrived has = has
ranked_queues Age queue arrived has = has

pub sorted_queues : (strategy : Strategy) (queue arrived : List (List ℕ)) → strategy ≡ Sorted → HasQueues strategy queue arrived → arrived ≡ []
sorted_queues strategy queue arrived e has = subst (λ (s : Strategy). HasQueues s queue arrived) e has

pub naive_queues : (strategy : Strategy) (queue arrived : List (List ℕ)) → strategy ≡ Naive → HasQueues strategy queue arrived → queue ≡ []
naive_queues strategy queue arrived e has = subst (λ (s : Strategy). HasQueues s queue arrived) e has

pub unsorted_queues : (strategy : Strategy) (rank : Rank) (queue arrived : List (List ℕ)) → strategy ≡ strategy_of rank → HasQueues strategy queue arrived → (queue ≡ []) × (arrived ≡ [])
unsorted_queues strategy rank queue arrived e has = ranked_queues rank queue arrived (subst (λ (s : Strategy). HasQueues s queue arrived) e has)

-- other paths under `sorted` and `naive`
pub made_queues : (strategy : Strategy) (queue arrived made : List (List ℕ)) → strategy ≡ Sorted → HasQueues strategy queue arrived → HasQueues strategy made arrived
made_queues strategy queue arrived made e has = subst (λ (s : Strategy). HasQueues s made arrived) (sym e) (sorted_queues strategy queue arrived e has)

pub found_queues : (strategy : Strategy) (queue arrived found : List (List ℕ)) → strategy ≡ Naive → HasQueues strategy queue arrived → HasQueues strategy queue found
found_queues strategy queue arrived found e has = subst (λ (s : Strategy). HasQueues s queue found) (sym e) (naive_queues strategy queue arrived e has)
