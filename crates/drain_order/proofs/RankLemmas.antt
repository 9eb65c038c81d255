-- The walk that finds the first metric by rank.
use Rattle.std.proofs.Common.{◌≡◌, ◌∙◌, ◌<◌, ◌+◌, ℕ, true, false, List, [], ◌∷◌, None, Some, length, get_or, option_map, slice_get, refl, sym, ap, subst, arith}
use Rattle.std.specs.Cmp.{IsTotalOrder, IsStrictWeakOrder}
use Rattle.std.specs.List.{IsDistinct, IsFirstBest}
use Rattle.std.specs.List.Sorted.{IsPermutation}
use Rattle.std.specs.Ordering.{is_lt}
use Rattle.std.specs.Str.{bytes_eq}
use Rattle.std.specs.declared.cmp.Ordering.TheVariants.{Equal}
use Rattle.std.proofs.lemmas.List.{get_or_default}
use Rattle.std.proofs.lemmas.List.Elements.{All-contains}
use Rattle.std.proofs.lemmas.List.MinMax.{IsFirstBest-from_best_of, IsFirstBest-keeps, IsFirstBest-none, IsFirstBest-takes, IsFirstBest-unique}
use Rattle.std.proofs.lemmas.List.Sorted.{Contains-permutation, IsPermutation-sym, length_permutation}
use Rattle.std.proofs.lemmas.Option.{slice_get-get_or, slice_get-map}
use Rattle.point_cache.specs.Pending.{Cache, Metrics, paths_of, points_of}
use Rattle.drain_order.specs.Pick.{Metric, first_by}
use Rattle.drain_order.specs.Picking.{TellsPick}
use Rattle.drain_order.specs.Rank.{by_place, first_path, metric_at, order_of}
use Rattle.drain_order.specs.declared.rank.Rank.{Rank}
use Rattle.drain_order.specs.declared.rank.Rank.TheVariants.{Age, Count}
use Rattle.drain_order.proofs.MetricLemmas.{length_placed, placed_all}
use Rattle.drain_order.proofs.PickLemmas.{by_age_total, by_count_total, first_is, ranks}
use Rattle.drain_order.proofs.QueueLemmas.{tied_second}
use Rattle.drain_order.proofs.SortLemmas.{not_before_both}

order_total : (rank : Rank) → IsTotalOrder (order_of rank)
order_total Count = by_count_total
order_total Age = by_age_total

-- metrics that tie have one path
order_exact : (rank : Rank) (a b : Metric) → order_of rank a b ≡ Equal → a.0 ≡ b.0
order_exact Count a b h = tied_second _ a.0 b.0 h
order_exact Age a b h = tied_second _ a.0 b.0 h

weak : (rank : Rank) → IsStrictWeakOrder (λ a b. is_lt (order_of rank a b))
weak rank = ranks (order_of rank) (order_total rank)

pub walk_starts : (rank : Rank) (metrics : Metrics) → IsFirstBest (λ a b. is_lt (order_of rank a b)) metrics 1 0
walk_starts rank metrics = IsFirstBest-none (weak rank) metrics

pub walk_takes : (rank : Rank) (cache : Cache) (i b : ℕ) → IsFirstBest (λ a b. is_lt (order_of rank a b)) (by_place cache) i b → i < length cache.places
    → is_lt (order_of rank (metric_at cache i) (metric_at cache b)) ≡ true → IsFirstBest (λ a b. is_lt (order_of rank a b)) (by_place cache) (i + 1) i
walk_takes rank cache i b best lt beats =
    let within : i < length (by_place cache) = omega (arith, lt, length_placed cache) in
    IsFirstBest-takes (weak rank) (by_place cache) i b (metric_at cache i) (metric_at cache b) best within
    (get_or_default (by_place cache) i ([], []) (metric_at cache i) within) (get_or_default (by_place cache) b ([], []) (metric_at cache b) (omega (arith, within, best.0))) beats

pub walk_keeps : (rank : Rank) (cache : Cache) (i b : ℕ) → IsFirstBest (λ a b. is_lt (order_of rank a b)) (by_place cache) i b → i < length cache.places
    → is_lt (order_of rank (metric_at cache i) (metric_at cache b)) ≡ false → IsFirstBest (λ a b. is_lt (order_of rank a b)) (by_place cache) (i + 1) b
walk_keeps rank cache i b best lt beats =
    let within : i < length (by_place cache) = omega (arith, lt, length_placed cache) in
    IsFirstBest-keeps (weak rank) (by_place cache) i b (metric_at cache i) (metric_at cache b) best within
    (get_or_default (by_place cache) i ([], []) (metric_at cache i) within) (get_or_default (by_place cache) b ([], []) (metric_at cache b) (omega (arith, within, best.0))) beats

walk_ends : (rank : Rank) (metrics : Metrics) (b : ℕ) → IsFirstBest (λ a b. is_lt (order_of rank a b)) metrics (length metrics) b
    → slice_get metrics b ≡ first_by (order_of rank) metrics
walk_ends rank [] b best = absurd (omega (arith, best.0))
walk_ends rank (m ∷ ms) b best =
    let found = IsFirstBest-from_best_of (weak rank) m ms in
    let same : b ≡ found.0 = IsFirstBest-unique (weak rank) (m ∷ ms) (length (m ∷ ms)) b found.0 m best found.1 in
    slice_get-get_or (m ∷ ms) b m best.0 ∙ ap (λ (k : ℕ). Some (get_or (m ∷ ms) k m)) same ∙ ap (λ (x : Metric). Some x) found.2

-- the first metric does not depend on the order in which they are looked at
first_moved : (rank : Rank) (xs ys : Metrics) → IsPermutation xs ys → first_path rank xs ≡ first_path rank ys
first_moved rank [] [] moved = refl
first_moved rank [] (y ∷ ys) moved = let long : length (y ∷ ys) ≡ 0 = length_permutation [] (y ∷ ys) moved in absurd (omega (arith, long))
first_moved rank (x ∷ xs) [] moved = let long : 0 ≡ length (x ∷ xs) = length_permutation (x ∷ xs) [] moved in absurd (omega (arith, long))
first_moved rank (x ∷ xs) (y ∷ ys) moved =
    let a = first_is (order_of rank) (order_total rank) (x ∷ xs) _ refl in
    let b = first_is (order_of rank) (order_total rank) (y ∷ ys) _ refl in
    let not_b = All-contains (λ (m : Metric). is_lt (order_of rank m a.metric) ≡ false) (x ∷ xs) b.metric a.first (Contains-permutation (y ∷ ys) (x ∷ xs) b.metric (IsPermutation-sym (x ∷ xs) (y ∷ ys) moved) b.among) in
    let not_a = All-contains (λ (m : Metric). is_lt (order_of rank m b.metric) ≡ false) (y ∷ ys) a.metric b.first (Contains-permutation (x ∷ xs) (y ∷ ys) a.metric moved a.among) in
    let same = order_exact rank a.metric b.metric (not_before_both (order_of rank) (order_total rank) a.metric b.metric not_a not_b) in
    ap (λ (p : List ℕ). Some p) (sym a.named ∙ same ∙ b.named)

-- no metric
pub none_first : (rank : Rank) (metrics : Metrics) → length metrics ≡ 0 → first_path rank metrics ≡ None
none_first rank [] none = refl
none_first rank (m ∷ ms) none = absurd (omega (arith, none))

-- the place where the walk ended is that of the first metric
pub walk_tells : (rank : Rank) (cache : Cache) (b : ℕ) → IsPermutation (paths_of cache.metrics) cache.places → IsDistinct bytes_eq (paths_of cache.metrics)
    → IsFirstBest (λ a b. is_lt (order_of rank a b)) (by_place cache) (length cache.places) b → TellsPick cache (Some b) (first_path rank cache.metrics)
walk_tells rank cache b placed once best =
    let whole = subst (λ (n : ℕ). IsFirstBest (λ a b. is_lt (order_of rank a b)) (by_place cache) n b) (sym (length_placed cache)) best in
    let within : b < length cache.places = omega (arith, best.0) in
    let here = slice_get-get_or cache.places b [] within in
    let seen : slice_get cache.places b ≡ option_map (λ (m : Metric). m.0) (slice_get (by_place cache) b) =
    here ∙ sym (ap (option_map (λ (m : Metric). m.0)) (slice_get-map (λ (p : List ℕ). (p, points_of cache.metrics p)) cache.places b ∙ ap (option_map (λ (p : List ℕ). (p, points_of cache.metrics p))) here)) in
    (within, seen ∙ ap (option_map (λ (m : Metric). m.0)) (walk_ends rank (by_place cache) b whole) ∙ sym (first_moved rank cache.metrics (by_place cache) (placed_all cache placed once)))
