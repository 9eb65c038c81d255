-- Lists of metrics with their pending points.
use Rattle.std.proofs.Common.{◌≡◌, ◌∙◌, ◌+◌, ◌<◌, ℕ, ℤ, Bool, true, false, cond, if◌then◌else◌, List, [], ◌∷◌, None, Option, Some, length, sym, ap, arith, unwrap_or}
use Rattle.std.specs.Map.{lookup, remove_entry}
use Rattle.std.specs.Str.{bytes_eq}
use Rattle.std.proofs.lemmas.List.Sums.{sum_by-cons}
use Rattle.std.proofs.lemmas.Option.{none-some, same_Some}
use Rattle.indexmap.specs.IndexMap.{insert_entry}
use Rattle.indexmap.specs.IndexSet.{insert_key}
use Rattle.point_cache.specs.Points.{has_time, with_point}
use Rattle.point_cache.specs.Pending.{Counts, EachHasPoints, Metrics, Placed, PutsMetric, PutsPoint, ReplacesMetric, ReplacesPoint, added, points_count, points_of}
use Rattle.point_cache.specs.declared.put.Put.{Put}
use Rattle.point_cache.specs.declared.put.Put.TheVariants.{Stored, Replaced, Full, NoMemory}

-- points written over themselves change nothing
same_points : (ms : Metrics) (path : List ℕ) (points : List (ℕ × ℤ)) → lookup (bytes_eq path) ms ≡ Some points → insert_entry bytes_eq ms path points ≡ ms
same_points [] path points here = absurd (none-some points here)
same_points (m ∷ ms) path points here = by (bytes_eq path m.0) here (same_points ms path points)
  where
    by : (b : Bool) → cond b (Some m.1) (lookup (bytes_eq path) ms) ≡ Some points → (lookup (bytes_eq path) ms ≡ Some points → insert_entry bytes_eq ms path points ≡ ms)
        → (if b then (m.0, points) ∷ ms else m ∷ insert_entry bytes_eq ms path points) ≡ m ∷ ms
    by true here more = ap (λ (ps : List (ℕ × ℤ)). (m.0, ps) ∷ ms) (sym (same_Some m.1 points here))
    by false here more = ap (λ l. m ∷ l) (more here)

-- how many points are pending in a metric and those behind it
count_cons : (m : List ℕ × List (ℕ × ℤ)) (ms : Metrics) → points_count (m ∷ ms) ≡ length m.1 + points_count ms
count_cons m ms = sum_by-cons (λ m. length m.1) m ms

-- how many are pending once a path has other points
count_put : (ms : Metrics) (path : List ℕ) (new : List (ℕ × ℤ))
    → points_count (insert_entry bytes_eq ms path new) + length (points_of ms path) ≡ points_count ms + length new
count_put [] path new = omega (arith, count_cons (path, new) [])
count_put (m ∷ ms) path new = by (bytes_eq path m.0) (count_put ms path new)
  where
    by : (b : Bool) → points_count (insert_entry bytes_eq ms path new) + length (points_of ms path) ≡ points_count ms + length new
        → points_count (if b then (m.0, new) ∷ ms else m ∷ insert_entry bytes_eq ms path new) + length (unwrap_or (cond b (Some m.1) (lookup (bytes_eq path) ms)) [])
        ≡ points_count (m ∷ ms) + length new
    by true more = omega (arith, count_cons m ms, count_cons (m.0, new) ms)
    by false more = omega (arith, more, count_cons m ms, count_cons m (insert_entry bytes_eq ms path new))

each_put : (ms : Metrics) (path : List ℕ) (new : List (ℕ × ℤ)) → EachHasPoints ms → 0 < length new → EachHasPoints (insert_entry bytes_eq ms path new)
each_put [] path new each some = (some, tt)
each_put (m ∷ ms) path new each some = by (bytes_eq path m.0) (each_put ms path new each.1 some)
  where
    by : (b : Bool) → EachHasPoints (insert_entry bytes_eq ms path new) → EachHasPoints (if b then (m.0, new) ∷ ms else m ∷ insert_entry bytes_eq ms path new)
    by true more = (some, each.1)
    by false more = (each.0, more)

-- a metric that is there has points
pub some_points : (ms : Metrics) (path : List ℕ) (points : List (ℕ × ℤ)) → lookup (bytes_eq path) ms ≡ Some points → EachHasPoints ms → 0 < length points
some_points [] path points here each = absurd (none-some points here)
some_points (m ∷ ms) path points here each = by (bytes_eq path m.0) here (some_points ms path points)
  where
    by : (b : Bool) → cond b (Some m.1) (lookup (bytes_eq path) ms) ≡ Some points → (lookup (bytes_eq path) ms ≡ Some points → EachHasPoints ms → 0 < length points) → 0 < length points
    by true here more = let long : length m.1 ≡ length points = ap length (same_Some m.1 points here) in omega (arith, long, each.0)
    by false here more = more here each.1

-- and without it there are as many fewer
pub count_taken : (ms : Metrics) (path : List ℕ) (points : List (ℕ × ℤ)) → lookup (bytes_eq path) ms ≡ Some points
    → points_count (remove_entry (bytes_eq path) ms) + length points ≡ points_count ms
count_taken [] path points here = absurd (none-some points here)
count_taken (m ∷ ms) path points here = by (bytes_eq path m.0) here (count_taken ms path points)
  where
    by : (b : Bool) → cond b (Some m.1) (lookup (bytes_eq path) ms) ≡ Some points
        → (lookup (bytes_eq path) ms ≡ Some points → points_count (remove_entry (bytes_eq path) ms) + length points ≡ points_count ms)
        → points_count (cond b ms (m ∷ remove_entry (bytes_eq path) ms)) + length points ≡ points_count (m ∷ ms)
    by true here more = let long : length m.1 ≡ length points = ap length (same_Some m.1 points here) in omega (arith, long, count_cons m ms)
    by false here more = omega (arith, more here, count_cons m ms, count_cons m (remove_entry (bytes_eq path) ms))

pub each_taken : (ms : Metrics) (path : List ℕ) → EachHasPoints ms → EachHasPoints (remove_entry (bytes_eq path) ms)
each_taken [] path each = tt
each_taken (m ∷ ms) path each = by (bytes_eq path m.0) (each_taken ms path each.1)
  where
    by : (b : Bool) → EachHasPoints (remove_entry (bytes_eq path) ms) → EachHasPoints (cond b ms (m ∷ remove_entry (bytes_eq path) ms))
    by true more = each.1
    by false more = (each.0, more)

-- a put into the points of a path that is there is a put into the metrics
pub puts_there : (old : Placed) (path : List ℕ) (points new : List (ℕ × ℤ)) (t : ℕ) (v : ℤ) (put : Put) → lookup (bytes_eq path) old.metrics ≡ Some points
    → insert_key bytes_eq old.places path ≡ old.places → PutsPoint points new t v put
    → PutsMetric old (record { metrics = insert_entry bytes_eq old.metrics path new; places = old.places }) path t v put
puts_there old path points new t v put here known puts =
    let its : points_of old.metrics path ≡ points = ap (λ (o : Option (List (ℕ × ℤ))). unwrap_or o []) here in
    by put its puts
  where
    stored : points_of old.metrics path ≡ points → new ≡ with_point points t v
        → ◌≡◌ {A = Placed} (record { metrics = insert_entry bytes_eq old.metrics path new; places = old.places })
        (record { metrics = insert_entry bytes_eq old.metrics path (with_point (points_of old.metrics path) t v); places = insert_key bytes_eq old.places path })
    stored its e j = record { metrics = insert_entry bytes_eq old.metrics path ((e ∙ ap (λ ps. with_point ps t v) (sym its)) j); places = sym known j }

    by : (p : Put) → points_of old.metrics path ≡ points → PutsPoint points new t v p
        → PutsMetric old (record { metrics = insert_entry bytes_eq old.metrics path new; places = old.places }) path t v p
    by Stored its puts = (ap (λ ps. has_time ps t) its ∙ puts.0, stored its puts.1)
    by Replaced its puts = (ap (λ ps. has_time ps t) its ∙ puts.0, stored its puts.1)
    by Full its puts = puts
    by NoMemory its puts =
        (ap (λ ps. has_time ps t) its ∙ puts.0, λ j. record { metrics = (ap (insert_entry bytes_eq old.metrics path) puts.1 ∙ same_points old.metrics path points here) j; places = old.places })

-- the same of a put where no new point has room
pub replaces_there : (old : Placed) (path : List ℕ) (points new : List (ℕ × ℤ)) (t : ℕ) (v : ℤ) (put : Put) → lookup (bytes_eq path) old.metrics ≡ Some points
    → insert_key bytes_eq old.places path ≡ old.places → ReplacesPoint points new t v put
    → ReplacesMetric old (record { metrics = insert_entry bytes_eq old.metrics path new; places = old.places }) path t v put
replaces_there old path points new t v put here known puts =
    let its : points_of old.metrics path ≡ points = ap (λ (o : Option (List (ℕ × ℤ))). unwrap_or o []) here in
    by put its puts
  where
    by : (p : Put) → points_of old.metrics path ≡ points → ReplacesPoint points new t v p
        → ReplacesMetric old (record { metrics = insert_entry bytes_eq old.metrics path new; places = old.places }) path t v p
    by Stored its puts = puts
    by Replaced its puts = (
      ap (λ ps. has_time ps t) its ∙ puts.0,
      λ j. record { metrics = insert_entry bytes_eq old.metrics path ((puts.1 ∙ ap (λ ps. with_point ps t v) (sym its)) j); places = sym known j },
    )
    by Full its puts =
        (ap (λ ps. has_time ps t) its ∙ puts.0, λ j. record { metrics = (ap (insert_entry bytes_eq old.metrics path) puts.1 ∙ same_points old.metrics path points here) j; places = old.places })
    by NoMemory its puts = puts

-- what the number of points becomes where those of a path become so many more
pub counts_there : (ms : Metrics) (path : List ℕ) (points new : List (ℕ × ℤ)) (put : Put) → lookup (bytes_eq path) ms ≡ Some points
    → length new ≡ length points + added put → Counts ms (insert_entry bytes_eq ms path new) put
counts_there ms path points new put here long =
    let its : length (points_of ms path) ≡ length points = ap (λ (o : Option (List (ℕ × ℤ))). length (unwrap_or o [])) here in
    record {
      count = omega (arith, count_put ms path new, its, long);
      each = λ each. each_put ms path new each (omega (arith, long, some_points ms path points here each));
    }

-- and where a metric with one point comes
pub counts_new : (ms : Metrics) (path : List ℕ) (new : List (ℕ × ℤ)) → lookup (bytes_eq path) ms ≡ None → length new ≡ 1
    → Counts ms (insert_entry bytes_eq ms path new) Stored
counts_new ms path new none long =
    let its : length (points_of ms path) ≡ 0 = ap (λ (o : Option (List (ℕ × ℤ))). length (unwrap_or o [])) none in
    record {
      count = omega (arith, count_put ms path new, its, long);
      each = λ each. each_put ms path new each (omega (arith, long));
    }
