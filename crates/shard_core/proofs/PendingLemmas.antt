-- Pending metrics stay those of their class.
use Rattle.std.proofs.Common.{◌≡◌, ◌≢◌, ◌∙◌, Option, IsSome, refl, sym, ap, ◌<◌, arith, length, ℕ, ℤ, Bool, true, false, List, [], ◌∷◌, All, Some, None, unwrap_or, if◌then◌else◌}
use Rattle.std.specs.Map.{lookup, remove_entry}
use Rattle.std.proofs.lemmas.Bool.{true≢false}
use Rattle.std.specs.Str.{bytes_eq}
use Rattle.std.proofs.lemmas.List.Elements.{All-nil, All-cons, All-head, All-tail, All-append, All-filter}
use Rattle.indexmap.specs.IndexMap.{insert_entry}
use Rattle.indexmap.proofs.MapLemmas.{some_index}
use Rattle.metric_path.specs.Path.{path_fault}
use Rattle.metric_path.specs.Class.{class_of}
use Rattle.fixed_num.specs.Moment.{is_moment}
use Rattle.point_cache.specs.Points.{with_point}
use Rattle.point_cache.specs.Pending.{Cache, EachHasPoints, place_of, points_of, Puts, with_put}
use Rattle.point_cache.specs.declared.put.Put.{Put}
use Rattle.point_cache.specs.declared.put.Put.TheVariants.{Stored, Replaced, Full, NoMemory}
use Rattle.point_cache.proofs.PendingLemmas.{some_points}
use Rattle.carbon_model.specs.State.{Metrics}
use Rattle.shard_core.specs.Shard.{AreOfClass}

abbrev HasMoment : ℕ × ℤ → Type 0
HasMoment p = is_moment p.0 ≡ true

abbrev IsMetric : ℕ → List ℕ × List (ℕ × ℤ) → Type 0
IsMetric class metric = (path_fault metric.0 ≡ None) × ((class_of metric.0 ≡ class) × All (λ p. is_moment p.0 ≡ true) metric.1)

found_or : (b : Bool) (here there : List (ℕ × ℤ)) (metrics : Metrics) (path : List ℕ) → All HasMoment here → All HasMoment (points_of metrics path)
    → All HasMoment (unwrap_or (if b then Some here else lookup (bytes_eq path) metrics) [])
found_or true here there metrics path h t = h
found_or false here there metrics path h t = t

-- the points of a path are of legal moments
pub points_have_moments : (class : ℕ) (metrics : Metrics) (path : List ℕ) → AreOfClass class metrics → All (λ p. is_moment p.0 ≡ true) (points_of metrics path)
points_have_moments class [] path all = All-nil HasMoment
points_have_moments class (m ∷ ms) path all =
    found_or (bytes_eq path m.0) m.1 m.1 ms path (All-head (IsMetric class) m ms all).1.1 (points_have_moments class ms path (All-tail (IsMetric class) m ms all))

point_more : (points : List (ℕ × ℤ)) (time : ℕ) (value : ℤ) → All HasMoment points → is_moment time ≡ true → All HasMoment (with_point points time value)
point_more points time value all here =
    All-append HasMoment _ _ (All-filter _ HasMoment points all) (All-cons HasMoment (time, value) _ here (All-filter _ HasMoment points all))

entry_put : (b : Bool) (class : ℕ) (m : List ℕ × List (ℕ × ℤ)) (ms : Metrics) (path : List ℕ) (points : List (ℕ × ℤ)) → IsMetric class m → All (IsMetric class) ms → All HasMoment points
    → All (IsMetric class) (insert_entry bytes_eq ms path points) → All (IsMetric class) (if b then (m.0, points) ∷ ms else m ∷ insert_entry bytes_eq ms path points)
entry_put true class m ms path points one all moments more = All-cons (IsMetric class) (m.0, points) ms (one.0, (one.1.0, moments)) all
entry_put false class m ms path points one all moments more = All-cons (IsMetric class) m _ one more

metric_put : (class : ℕ) (metrics : Metrics) (path : List ℕ) (points : List (ℕ × ℤ)) → AreOfClass class metrics → path_fault path ≡ None → class_of path ≡ class → All HasMoment points
    → AreOfClass class (insert_entry bytes_eq metrics path points)
metric_put class [] path points all legal here moments = All-cons (IsMetric class) (path, points) [] (legal, (here, moments)) (All-nil (IsMetric class))
metric_put class (m ∷ ms) path points all legal here moments =
    let tail = All-tail (IsMetric class) m ms all in
    entry_put (bytes_eq path m.0) class m ms path points (All-head (IsMetric class) m ms all) tail moments (metric_put class ms path points tail legal here moments)

with_one_more : (class : ℕ) (metrics : Metrics) (path : List ℕ) (time : ℕ) (value : ℤ) → AreOfClass class metrics → path_fault path ≡ None → class_of path ≡ class → is_moment time ≡ true
    → AreOfClass class (with_put metrics path time value)
with_one_more class metrics path time value all legal here moment =
    metric_put class metrics path _ all legal here (point_more (points_of metrics path) time value (points_have_moments class metrics path all) moment)

-- after a put, however it ended
pub of_class_after_put : (class : ℕ) (old new : Cache) (path : List ℕ) (time : ℕ) (value : ℤ) (put : Put) → Puts old new path time value put → AreOfClass class old.metrics → path_fault path ≡ None → class_of path ≡ class
    → is_moment time ≡ true → AreOfClass class new.metrics
of_class_after_put class old new path time value Stored puts all legal here moment = rw puts.1.1 (with_one_more class old.metrics path time value all legal here moment)
of_class_after_put class old new path time value Replaced puts all legal here moment = rw puts.1 (with_one_more class old.metrics path time value all legal here moment)
of_class_after_put class old new path time value Full puts all legal here moment = rw puts.1.1 all
of_class_after_put class old new path time value NoMemory puts all legal here moment = rw puts.1.1 all

-- the metrics without one
without : (class : ℕ) (b : Bool) (m : List ℕ × List (ℕ × ℤ)) (ms rest : Metrics) → IsMetric class m → All (IsMetric class) ms → All (IsMetric class) rest → All (IsMetric class) (if b then ms else m ∷ rest)
without class true m ms rest one all left = all
without class false m ms rest one all left = All-cons (IsMetric class) m rest one left

pub of_class_without : (class : ℕ) (metrics : Metrics) (path : List ℕ) → AreOfClass class metrics → AreOfClass class (remove_entry (bytes_eq path) metrics)
of_class_without class [] path all = all
of_class_without class (m ∷ ms) path all =
    let others = All-tail (IsMetric class) m ms all in
    without class (bytes_eq path m.0) m ms (remove_entry (bytes_eq path) ms) (All-head (IsMetric class) m ms all) others (of_class_without class ms path others)

-- a metric that is there has points
pub pending_has_points : (metrics : Metrics) (path : List ℕ) → EachHasPoints metrics → IsSome (place_of metrics path) → points_of metrics path ≢ []
pending_has_points metrics path each there = some (lookup (bytes_eq path) metrics) refl (sym (some_index (bytes_eq path) metrics) ∙ there)
  where
    some : (o : Option (List (ℕ × ℤ))) → lookup (bytes_eq path) metrics ≡ o → IsSome o → points_of metrics path ≢ []
    some None is is_there none = absurd (true≢false (sym is_there))
    some (Some points) is is_there none =
        let long : 0 < length points = some_points metrics path points is each in
        let empty : length points ≡ 0 = ap length (ap (λ (o : Option (List (ℕ × ℤ))). unwrap_or o []) (sym is) ∙ none) in
        absurd (omega (arith, long, empty))

-- a metric with points that is taken leaves fewer
pub fewer_without : (metrics : Metrics) (path : List ℕ) → 0 < length (points_of metrics path) → length (remove_entry (bytes_eq path) metrics) < length metrics
fewer_without [] path some = absurd (omega (arith, some))
fewer_without (m ∷ ms) path some = by (bytes_eq path m.0) some (λ there. fewer_without ms path there)
  where
    by : (b : Bool) → 0 < length (unwrap_or (if b then Some m.1 else lookup (bytes_eq path) ms) [])
        → (0 < length (points_of ms path) → length (remove_entry (bytes_eq path) ms) < length ms)
        → length (if b then ms else m ∷ remove_entry (bytes_eq path) ms) < length (m ∷ ms)
    by true here less = omega arith
    by false there less = let fewer = less there in omega (arith, fewer)
