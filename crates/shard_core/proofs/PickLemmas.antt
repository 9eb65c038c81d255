-- The metric at a place has a legal path of the class.
use Rattle.std.proofs.Common.{◌≡◌, ◌∙◌, ℕ, zero, suc, ℤ, All, true, List, [], ◌∷◌, Option, Some, None, sym, ap, subst}
use Rattle.std.specs.Prelude.{slice_get, unwrap_or}
use Rattle.std.proofs.lemmas.Option.{none-some}
use Rattle.std.specs.List.Sorted.{IsPermutation}
use Rattle.std.proofs.lemmas.List.Sorted.{All-permutation}
use Rattle.std.proofs.lemmas.List.Elements.{All-cons, All-head, All-nil, All-tail}
use Rattle.metric_path.specs.Path.{path_fault}
use Rattle.metric_path.specs.Class.{class_of}
use Rattle.fixed_num.specs.Moment.{is_moment}
use Rattle.point_cache.specs.Pending.{paths_of}
use Rattle.carbon_model.specs.State.{Metrics}
use Rattle.carbon_model.specs.RingFiles.{IsOfClass}
use Rattle.shard_core.specs.Shard.{AreOfClass}

-- a metric that is pending has a legal path of the class
abbrev IsMetric : ℕ → List ℕ × List (ℕ × ℤ) → Type 0
IsMetric class metric = (path_fault metric.0 ≡ None) × ((class_of metric.0 ≡ class) × All (λ p. is_moment p.0 ≡ true) metric.1)

paths_of_class : (class : ℕ) (metrics : Metrics) → AreOfClass class metrics → All (IsOfClass class) (paths_of metrics)
paths_of_class class [] all = All-nil (IsOfClass class)
paths_of_class class (m ∷ ms) all =
    let head = All-head (IsMetric class) m ms all in
    All-cons (IsOfClass class) m.0 (paths_of ms) (record { legal = head.0; here = head.1.0 }) (paths_of_class class ms (All-tail (IsMetric class) m ms all))

at_place : (P : List ℕ → Type 0) (paths : List (List ℕ)) (place : ℕ) (path : List ℕ) → All P paths → slice_get paths place ≡ Some path → P path
at_place P [] place path all e = absurd (none-some path e)
at_place P (p ∷ ps) zero path all e = subst P (ap (λ (o : Option (List ℕ)). unwrap_or o p) e) (All-head P p ps all)
at_place P (p ∷ ps) (suc place) path all e = at_place P ps place path (All-tail P p ps all) e

-- and so has the one at each place
pub of_class_at : (class : ℕ) (metrics : Metrics) (places : List (List ℕ)) (place : ℕ) (path : List ℕ) → AreOfClass class metrics → IsPermutation (paths_of metrics) places → slice_get places place ≡ Some path
    → IsOfClass class path
of_class_at class metrics places place path all placed e =
    at_place (IsOfClass class) places place path (All-permutation (IsOfClass class) (paths_of metrics) places placed (paths_of_class class metrics all)) e

-- one path stands at a place
pub same_at : (paths : List (List ℕ)) (place : ℕ) (path other : List ℕ) → slice_get paths place ≡ Some path → slice_get paths place ≡ Some other → path ≡ other
same_at paths place path other here there = ap (λ (o : Option (List ℕ)). unwrap_or o path) (sym here ∙ there)
