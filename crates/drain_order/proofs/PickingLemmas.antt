-- The place of the path that is picked from the queue.
use Rattle.std.proofs.Common.{◌≡◌, ◌∙◌, ◌<◌, ◌≤◌, ℕ, Bool, true, false, List, [], ◌∷◌, Option, None, Some, drop, get_or, length, nat_lt, slice_get, refl, sym, ap, arith, lt-ltb, true≢false, is_some, inl, inr, if◌then◌else◌, subst}
use Rattle.std.specs.Prelude.{IsSome, position}
use Rattle.std.specs.List.{IsDistinct, position_or_len}
use Rattle.std.specs.Map.{remove_entry}
use Rattle.std.specs.Str.{bytes_eq}
use Rattle.std.proofs.lemmas.Bool.{cases_order}
use Rattle.std.proofs.lemmas.List.{get_or-map}
use Rattle.std.proofs.lemmas.List.Elements.{All-map}
use Rattle.std.proofs.lemmas.List.Quantifiers.{position-Some}
use Rattle.std.proofs.lemmas.List.Sorted.{All-permutation}
use Rattle.std.proofs.lemmas.List.Sums.{fails_before_first}
use Rattle.std.proofs.lemmas.Map.Entries.{length-keys_of}
use Rattle.std.proofs.lemmas.Option.{get_or_from_slice_get, none-some, same_Some, slice_get-get_or, slice_get_within}
use Rattle.std.proofs.lemmas.Slice.Eq.{bytes_eq-Decides}
use Rattle.point_cache.specs.Pending.{Cache, Metrics, paths_of, place_of}
use Rattle.drain_order.specs.Pick.{AllPending, Metric, by_count, pick, queue_after, queue_now, sorted_by}
use Rattle.drain_order.specs.Picking.{Follows, Picking, Picks, TellsPick, settled_with}
use Rattle.drain_order.specs.Rank.{first_path, strategy_of}
use Rattle.drain_order.specs.declared.rank.Rank.{Rank}
use Rattle.drain_order.specs.declared.rank.Rank.TheVariants.{Age, Count}
use Rattle.drain_order.specs.declared.strategy.Strategy.TheVariants.{Naive, Sorted}
use Rattle.drain_order.proofs.PickLemmas.{sorted_all}
use Rattle.drain_order.proofs.StayLemmas.{IsFront, front_first, front_taken, none_front, none_pending, taken_front}

same_bytes : (xs : List ℕ) → bytes_eq xs xs ≡ true
same_bytes xs = (bytes_eq-Decides xs xs).1 refl

equal_from_bytes : (xs ys : List ℕ) → bytes_eq xs ys ≡ true → xs ≡ ys
equal_from_bytes xs ys h = (bytes_eq-Decides xs ys).0 h

-- a path has a place where it is among the paths
placed : (paths : List (List ℕ)) (path : List ℕ) (k : ℕ) (d : List ℕ) → k < length paths → bytes_eq path (get_or paths k d) ≡ true → IsSome (position (bytes_eq path) paths)
placed paths path k d lt same =
    let first : position_or_len (bytes_eq path) paths ≤ k = elim (cases_order k (position_or_len (bytes_eq path) paths)) [
      | inl e ↦ omega (arith, e)
      | inr r ↦ elim r [
        | inl below ↦ absurd (true≢false (sym same ∙ fails_before_first (bytes_eq path) paths k d below))
        | inr above ↦ omega (arith, above)
      ]
    ] in
    let within : nat_lt (position_or_len (bytes_eq path) paths) (length paths) ≡ true = lt-ltb _ _ (omega (arith, first)) in
    rw within refl

-- every path of a queue that is made is pending
pub made_pending : (metrics : Metrics) → AllPending (queue_now [] metrics) metrics
made_pending metrics =
    All-map (λ (path : List ℕ). IsSome (place_of metrics path)) (λ (m : Metric). m.0) (sorted_by by_count metrics)
    (All-permutation (λ (m : Metric). IsSome (place_of metrics m.0)) metrics (sorted_by by_count metrics) (sorted_all by_count metrics)
    (λ k d lt. placed (paths_of metrics) (get_or metrics k d).0 k d.0 (omega (arith, lt, length-keys_of metrics)) (rw (get_or-map (λ (m : Metric). m.0) metrics k d) (same_bytes (get_or metrics k d).0))))

-- a queue that has paths stands
pub standing : (metrics : Metrics) (queue : List (List ℕ)) (path : List ℕ) → slice_get queue 0 ≡ Some path → queue ≡ queue_now queue metrics
standing metrics [] path h = absurd (true≢false (sym (ap is_some h)))
standing metrics (p ∷ ps) path h = refl

-- the queue that is seen, where it has paths, is the one that is kept
pub kept_queue : (made : Bool) (queue seen : List (List ℕ)) → (if made then [] else queue) ≡ seen → (seen ≡ [] → ⊥) → seen ≡ queue
kept_queue true queue seen e some = absurd (some (sym e))
kept_queue false queue seen e some = sym e

-- the path at the place of a path is it
place_names : (places : List (List ℕ)) (path : List ℕ) (i : ℕ) → position (bytes_eq path) places ≡ Some i → (i < length places) × (slice_get places i ≡ Some path)
place_names places path i h =
    let found = position-Some (bytes_eq path) places i path h in
    (found.0, slice_get-get_or places i path found.0 ∙ ap (λ (p : List ℕ). Some p) (sym (equal_from_bytes path _ found.1)))

-- what `place_of` answers at a pending path
pub record IsPlaceOf (cache : Cache) (path : List ℕ) (place : Option ℕ) : Type 0 where
  pub found : place ≡ position (bytes_eq path) cache.places
  pub pending : is_some place ≡ is_some (place_of cache.metrics path)

-- a pick that tells the place of a path
picks_path : (old new : Picking) (cache : Cache) (path : List ℕ) (place : Option ℕ) → IsPlaceOf cache path place → IsSome (place_of cache.metrics path)
    → pick old.strategy old.queue cache.metrics ≡ Some path → new.strategy ≡ old.strategy → new.queue ≡ old.queue
    → new.settled ≡ Some (queue_after old.strategy old.queue cache.metrics) → Follows new cache.metrics
    → Follows (settled_with new (queue_after old.strategy old.queue cache.metrics)) (remove_entry (bytes_eq path) cache.metrics) → Picks old new cache place
picks_path old new cache path None is pending picked strategy queue settled follows rest = absurd (true≢false (sym (is.pending ∙ pending)))
picks_path old new cache path (Some i) is pending picked strategy queue settled follows rest =
    let names = place_names cache.places path i (sym is.found) in
    record {
      told = (names.0, names.1 ∙ sym picked);
      strategy = strategy;
      queue = queue;
      settled = settled;
      follows = follows;
      rest = λ other e. subst (λ (p : List ℕ). Follows (settled_with new (queue_after old.strategy old.queue cache.metrics)) (remove_entry (bytes_eq p) cache.metrics))
          (same_Some path other (sym picked ∙ e)) rest;
    }

-- where nothing is picked
pub picks_none : (old : Picking) (cache : Cache) → Follows old cache.metrics → pick old.strategy old.queue cache.metrics ≡ None → Picks old old cache None
picks_none old cache follows none = record {
  told = none;
  strategy = refl;
  queue = refl;
  settled = refl;
  follows = follows;
  rest = λ path e. absurd (none-some path (sym none ∙ e));
}

-- under `sorted`: the path in front of the queue
pub picks_front : (old new : Picking) (cache : Cache) (queue : List (List ℕ)) (path : List ℕ) (place : Option ℕ)
    → old.strategy ≡ Sorted → new.arrived ≡ [] → Follows old cache.metrics → queue ≡ queue_now old.queue cache.metrics → AllPending queue cache.metrics → IsDistinct bytes_eq queue
    → slice_get queue 0 ≡ Some path → IsPlaceOf cache path place → new.strategy ≡ old.strategy → new.queue ≡ old.queue → new.settled ≡ Some (drop 1 queue) → Picks old new cache place
picks_front old new cache queue path place sorted none follows now pending once front is strategy kept settled =
    picks_path old new cache path place is here picked strategy kept (settled ∙ ap (λ (q : List (List ℕ)). Some q) after) (record {
      pending = subst (λ (q : List (List ℕ)). AllPending q cache.metrics) (sym kept) follows.pending;
      first = none_front cache.metrics new.arrived none;
    }) (record {
      pending = subst (λ (q : List (List ℕ)). AllPending q (remove_entry (bytes_eq path) cache.metrics)) after (front_taken cache.metrics queue path pending once front);
      first = none_front (remove_entry (bytes_eq path) cache.metrics) (drop 1 new.arrived) (ap (drop 1) none);
    })
  where
    here : IsSome (place_of cache.metrics path)
    here = subst (λ (p : List ℕ). IsSome (place_of cache.metrics p)) (get_or_from_slice_get queue 0 path path front) (pending 0 path (slice_get_within queue 0 path front))

    picked : pick old.strategy old.queue cache.metrics ≡ Some path
    picked = ap (λ s. pick s old.queue cache.metrics) sorted ∙ sym (ap (λ (q : List (List ℕ)). slice_get q 0) now) ∙ front

    after : drop 1 queue ≡ queue_after old.strategy old.queue cache.metrics
    after = ap (drop 1) now ∙ ap (λ s. queue_after s old.queue cache.metrics) (sym sorted)

-- under `naive`: the path that arrived first
pub picks_arrived : (old new : Picking) (cache : Cache) (path : List ℕ) (place : Option ℕ)
    → old.strategy ≡ Naive → old.queue ≡ [] → IsFront new.arrived cache.metrics → slice_get new.arrived 0 ≡ Some path → IsPlaceOf cache path place
    → new.strategy ≡ old.strategy → new.queue ≡ old.queue → new.settled ≡ Some [] → Picks old new cache place
picks_arrived old new cache path place naive none front here is strategy kept settled =
    picks_path old new cache path place is pending picked strategy kept (settled ∙ ap (λ (q : List (List ℕ)). Some q) (sym after)) (record {
      pending = none_pending cache.metrics new.queue (kept ∙ none);
      first = front;
    }) (record {
      pending = none_pending (remove_entry (bytes_eq path) cache.metrics) (queue_after old.strategy old.queue cache.metrics) after;
      first = taken_front new.arrived cache.metrics path front first;
    })
  where
    first : slice_get (paths_of cache.metrics) 0 ≡ Some path
    first = front_first new.arrived cache.metrics path front here

    picked : pick old.strategy old.queue cache.metrics ≡ Some path
    picked = ap (λ s. pick s old.queue cache.metrics) naive ∙ first

    after : queue_after old.strategy old.queue cache.metrics ≡ []
    after = ap (λ s. queue_after s old.queue cache.metrics) naive ∙ none

    pending : IsSome (place_of cache.metrics path)
    pending =
        let within = slice_get_within (paths_of cache.metrics) 0 path first in
        placed (paths_of cache.metrics) path 0 path within (rw (get_or_from_slice_get (paths_of cache.metrics) 0 path path first) (same_bytes path))

-- under `max` and `timesorted`: the path of the first by rank
pub ranked_path : (rank : Rank) (queue : List (List ℕ)) (metrics : Metrics) → pick (strategy_of rank) queue metrics ≡ first_path rank metrics
ranked_path Count queue metrics = refl
ranked_path Age queue metrics = refl

ranked_after : (rank : Rank) (queue : List (List ℕ)) (metrics : Metrics) → queue_after (strategy_of rank) queue metrics ≡ queue
ranked_after Count queue metrics = refl
ranked_after Age queue metrics = refl

pub picks_ranked : (old new : Picking) (cache : Cache) (rank : Rank) (i : ℕ) → old.strategy ≡ strategy_of rank → old.queue ≡ [] → new.arrived ≡ []
    → TellsPick cache (Some i) (first_path rank cache.metrics) → new.strategy ≡ old.strategy → new.queue ≡ old.queue → new.settled ≡ Some [] → Picks old new cache (Some i)
picks_ranked old new cache rank i ranked none unread told strategy kept settled = record {
  told = (told.0, told.1 ∙ sym (ap (λ s. pick s old.queue cache.metrics) ranked ∙ ranked_path rank old.queue cache.metrics));
  strategy = strategy;
  queue = kept;
  settled = settled ∙ ap (λ (q : List (List ℕ)). Some q) (sym after);
  follows = record { pending = none_pending cache.metrics new.queue (kept ∙ none); first = none_front cache.metrics new.arrived unread };
  rest = λ path e. record {
    pending = none_pending (remove_entry (bytes_eq path) cache.metrics) (queue_after old.strategy old.queue cache.metrics) after;
    first = none_front (remove_entry (bytes_eq path) cache.metrics) (drop 1 new.arrived) (ap (drop 1) unread);
  };
}
  where
    after : queue_after old.strategy old.queue cache.metrics ≡ []
    after = ap (λ s. queue_after s old.queue cache.metrics) ranked ∙ ranked_after rank old.queue cache.metrics ∙ none

-- a queue that is seen where there is none
pub seen_none : (made : Bool) (queue seen : List (List ℕ)) → queue ≡ [] → (if made then [] else queue) ≡ seen → seen ≡ []
seen_none true queue seen none e = sym e
seen_none false queue seen none e = sym e ∙ none
