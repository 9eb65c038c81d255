-- A put into kept entries is a put into the metrics that they stand for.
use Rattle.std.proofs.Common.{◌≡◌, ◌∙◌, ◌+◌, ℕ, ℤ, false, List, [], None, Option, length, position, sym, ap, subst, unwrap_or}
use Rattle.std.specs.Map.{keys_of}
use Rattle.std.specs.Str.{bytes_eq}
use Rattle.indexmap.specs.IndexMap.{insert_entry, set_value_at}
use Rattle.point_cache.specs.Kept.{Entry, IsKept, metrics_of, placed_of}
use Rattle.point_cache.specs.Pending.{Counts, Placed, PutsMetric, PutsPoint, ReplacesMetric, ReplacesPoint, added, placed_put, points_of}
use Rattle.point_cache.specs.Points.{has_time, with_point}
use Rattle.point_cache.specs.declared.numbered.Numbered.{Numbered}
use Rattle.point_cache.specs.declared.put.Put.{Put}
use Rattle.point_cache.specs.declared.put.Put.TheVariants.{Stored}
use Rattle.point_cache.proofs.KeptLemmas.{New, Renewed, absent}
use Rattle.point_cache.proofs.PendingLemmas.{counts_new, counts_there, puts_there, replaces_there}

-- what a function that puts a point ensures
pub record PutsKept (old new : List Entry) (path : List ℕ) (t : ℕ) (v : ℤ) (end : Put) : Type 0 where
  pub put : PutsMetric (placed_of old) (placed_of new) path t v end
  pub counts : Counts (metrics_of old) (metrics_of new) end

pub record ReplacesKept (old new : List Entry) (path : List ℕ) (t : ℕ) (v : ℤ) (end : Put) : Type 0 where
  pub put : ReplacesMetric (placed_of old) (placed_of new) path t v end
  pub counts : Counts (metrics_of old) (metrics_of new) end

counts_renewed : (next : ℕ) (es : List Entry) (path : List ℕ) (place : ℕ) (old new : Numbered) (put : Put) → Renewed next es path place old new
    → length new.points ≡ length old.points + added put → Counts (metrics_of es) (metrics_of (set_value_at es place new)) put
counts_renewed next es path place old new put r long =
    subst (λ (p : Placed). Counts (metrics_of es) p.metrics put) (sym r.placed) (counts_there (metrics_of es) path old.points new.points put r.there long)

pub puts_next : (next : ℕ) (es : List Entry) (path : List ℕ) (place : ℕ) (old new : Numbered) (t : ℕ) (v : ℤ) (put : Put) → Renewed next es path place old new
    → PutsPoint old.points new.points t v put → length new.points ≡ length old.points + added put → PutsKept es (set_value_at es place new) path t v put
puts_next next es path place old new t v put r puts long = record {
  put = subst (λ (p : Placed). PutsMetric (placed_of es) p path t v put) (sym r.placed) (puts_there (placed_of es) path old.points new.points t v put r.there r.known puts);
  counts = counts_renewed next es path place old new put r long;
}

pub replaces_next : (next : ℕ) (es : List Entry) (path : List ℕ) (place : ℕ) (old new : Numbered) (t : ℕ) (v : ℤ) (put : Put) → Renewed next es path place old new
    → ReplacesPoint old.points new.points t v put → length new.points ≡ length old.points + added put → ReplacesKept es (set_value_at es place new) path t v put
replaces_next next es path place old new t v put r puts long = record {
  put = subst (λ (p : Placed). ReplacesMetric (placed_of es) p path t v put) (sym r.placed) (replaces_there (placed_of es) path old.points new.points t v put r.there r.known puts);
  counts = counts_renewed next es path place old new put r long;
}

-- a path that is not there has no point
pub no_time : (next : ℕ) (es : List Entry) (path : List ℕ) (t : ℕ) → IsKept next es → position (bytes_eq path) (keys_of es) ≡ None
    → has_time (points_of (metrics_of es) path) t ≡ false
no_time next es path t kept none = ap (λ (o : Option (List (ℕ × ℤ))). has_time (unwrap_or o []) t) (absent next es path kept none)

-- the first point of a metric
pub puts_first : (es : List Entry) (path : List ℕ) (new : Numbered) (t : ℕ) (v : ℤ) → IsKept new.number es → position (bytes_eq path) (keys_of es) ≡ None → New es path new
    → new.points ≡ with_point [] t v → length new.points ≡ 1 → PutsKept es (insert_entry bytes_eq es path new) path t v Stored
puts_first es path new t v kept none n points one =
    let gone = absent new.number es path kept none in
    let its : new.points ≡ with_point (points_of (metrics_of es) path) t v =
    points ∙ ap (λ (o : Option (List (ℕ × ℤ))). with_point (unwrap_or o []) t v) (sym gone) in
    let after : placed_of (insert_entry bytes_eq es path new) ≡ placed_put (placed_of es) path t v =
    n.placed ∙ ap (λ (ps : List (ℕ × ℤ)). record (placed_put (placed_of es) path t v) { metrics = insert_entry bytes_eq (metrics_of es) path ps }) its in
    record {
      put = (no_time new.number es path t kept none, after);
      counts = subst (λ (p : Placed). Counts (metrics_of es) p.metrics Stored) (sym n.placed) (counts_new (metrics_of es) path new.points gone one);
    }
