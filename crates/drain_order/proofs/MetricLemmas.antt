-- The metrics by their places.
use Rattle.std.proofs.Common.{◌≡◌, ◌∙◌, ◌<◌, ℕ, ℤ, List, [], ◌∷◌, Option, Some, length, get_or, map, slice_get, suc, refl, sym, ap, subst, arith, unwrap_or}
use Rattle.std.specs.List.{IsDistinct}
use Rattle.std.specs.List.Sorted.{IsPermutation}
use Rattle.std.specs.Str.{bytes_eq}
use Rattle.std.proofs.lemmas.Cmp.{nat_list_eq_equiv}
use Rattle.std.proofs.lemmas.List.{get_or-map, length-map}
use Rattle.std.proofs.lemmas.List.Sorted.{IsPermutation-map}
use Rattle.std.proofs.lemmas.Map.Entries.{lookup_from_place}
use Rattle.std.proofs.lemmas.Option.{get_or_from_slice_get, slice_get-get_or, slice_get_within}
use Rattle.point_cache.specs.Pending.{ArePointsAt, Cache, Metrics, paths_of, points_of}
use Rattle.drain_order.specs.Pick.{Metric, oldest}
use Rattle.drain_order.specs.Rank.{by_place, metric_at}

-- the metric at the place of a path
pub metric_there : (cache : Cache) (place : ℕ) (path : List ℕ) → slice_get cache.places place ≡ Some path → metric_at cache place ≡ (path, points_of cache.metrics path)
metric_there cache place path here =
    get_or-map (λ (p : List ℕ). (p, points_of cache.metrics p)) cache.places place path ([], []) (slice_get_within cache.places place path here)
    ∙ ap (λ (p : List ℕ). (p, points_of cache.metrics p)) (get_or_from_slice_get cache.places place path path here)

pub path_at_place : (cache : Cache) (place : ℕ) (path : List ℕ) → slice_get cache.places place ≡ Some path → path ≡ (metric_at cache place).0
path_at_place cache place path here = sym (ap (λ (m : Metric). m.0) (metric_there cache place path here))

pub points_at_place : (cache : Cache) (place : ℕ) (points : List (ℕ × ℤ)) → place < length cache.places → ArePointsAt cache place points → points ≡ (metric_at cache place).1
points_at_place cache place points within its =
    let here = slice_get-get_or cache.places place [] within in
    its _ here ∙ sym (ap (λ (m : Metric). m.1) (metric_there cache place _ here))

pub oldest_at_front : (points : List (ℕ × ℤ)) (d : ℕ × ℤ) → 0 < length points → (get_or points 0 d).0 ≡ oldest points
oldest_at_front [] d some = absurd (omega arith)
oldest_at_front (p ∷ ps) d some = refl

-- the metrics are those of their paths
restored : (ms all : Metrics) → ((k : ℕ) (m : Metric) → slice_get ms k ≡ Some m → points_of all m.0 ≡ m.1) → map (λ (p : List ℕ). (p, points_of all p)) (paths_of ms) ≡ ms
restored [] all its = refl
restored (m ∷ ms) all its = λ j. (m.0, its 0 m refl j) ∷ restored ms all (λ k n at. its (suc k) n at) j

its_points : (ms : Metrics) → IsDistinct bytes_eq (paths_of ms) → (k : ℕ) (m : Metric) → slice_get ms k ≡ Some m → points_of ms m.0 ≡ m.1
its_points ms once k m at = ap (λ (o : Option (List (ℕ × ℤ))). unwrap_or o []) (lookup_from_place nat_list_eq_equiv ms k m.0 m.1 once at)

-- by their places they are the same in another order
pub placed_all : (cache : Cache) → IsPermutation (paths_of cache.metrics) cache.places → IsDistinct bytes_eq (paths_of cache.metrics) → IsPermutation cache.metrics (by_place cache)
placed_all cache placed once =
    subst (λ (ms : Metrics). IsPermutation ms (by_place cache)) (restored cache.metrics cache.metrics (its_points cache.metrics once))
    (IsPermutation-map (λ (p : List ℕ). (p, points_of cache.metrics p)) (paths_of cache.metrics) cache.places placed)

pub length_placed : (cache : Cache) → length (by_place cache) ≡ length cache.places
length_placed cache = length-map cache.places (λ (p : List ℕ). (p, points_of cache.metrics p))
