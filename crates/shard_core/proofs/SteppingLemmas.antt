-- The steps of a plan.
use Rattle.std.proofs.Common.{◌≡◌, ◌∙◌, ◌==◌, ◌&&◌, arith, length, ℕ, ℤ, List, Bool, true, false, [], Some, None, refl, sym, ap, subst, true≢false}
use Rattle.std.specs.Prelude.{slice_get}
use Rattle.std.specs.Bool.{Decides}
use Rattle.std.specs.Ordering.{int_eq}
use Rattle.std.proofs.lemmas.Bool.Decides.{Decides-eqb, Decides-int_eq}
use Rattle.ring_format.specs.Layout.{LayoutValue}
use Rattle.metric_index.specs.Index.{entry_of}
use Rattle.metric_table.specs.declared.known.Known.{Known}
use Rattle.point_cache.specs.Pending.{points_of}
use Rattle.drain_order.specs.Picking.{Picks}
use Rattle.drain_order.proofs.PickLemmas.{none_then_empty}
use Rattle.carbon_model.specs.RingFiles.{IsOfClass}
use Rattle.carbon_model.specs.State.{Metrics}
use Rattle.shard_core.specs.Halves.{DeskInside}
use Rattle.shard_core.specs.Plans.{IsDrainable, OnlyPicks}
use Rattle.shard_core.specs.Shard.{AreOfClass}
use Rattle.shard_core.specs.Stepping.{GoesNext, IsMetricAt, IsSoundNext}
use Rattle.shard_core.specs.declared.next_metric.NextMetric.{NextMetric}
use Rattle.shard_core.proofs.HalvesLemmas.{desk_picked, may_plan}

-- a metric that was picked goes next
pub goes_next : (old new : DeskInside) (place : ℕ) (metric : NextMetric) → OnlyPicks old new → Picks old.picker new.picker old.cache (Some place) → AreOfClass old.class old.cache.metrics → IsMetricAt new place metric
    → IsSoundNext new.class metric → GoesNext old metric
goes_next old new place metric only picks own here sound =
    let at : IsMetricAt (desk_picked old new.picker) place metric = subst (λ (d : DeskInside). IsMetricAt d place metric) only.others here in
    let one : IsOfClass old.class metric.path = subst (λ (d : DeskInside). IsOfClass d.class metric.path) only.others sound.one in record {
      picked = sym picks.told.1 ∙ at.there;
      points = at.points;
      drainable = at.drainable;
      some = λ none.
          let some = sound.some in
          let empty : length metric.points ≡ 0 = ap length (at.points ∙ ap (λ (ms : Metrics). points_of ms metric.path) none) in
          absurd (omega (arith, some, empty));
      has = sound.some;
      may = λ files halves empty. may_plan old files metric.path metric.known metric.points halves empty one own at.drainable.there sound.rising at.points;
    }

pub nothing_next : (old new : DeskInside) → Picks old.picker new.picker old.cache None → old.cache.metrics ≡ []
nothing_next old new picks = none_then_empty old.picker.strategy old.picker.queue old.cache.metrics picks.told

pub same_known : (one other : Known) → one.layout ≡ other.layout → one.is_kept ≡ other.is_kept → one.is_old ≡ other.is_old → one.drains ≡ other.drains → one ≡ other
same_known one other layout kept old drains = λ i. record { layout = layout i; is_kept = kept i; is_old = old i; drains = drains i }

pub same_parts : (one other : LayoutValue) → one.archives ≡ other.archives → one.method ≡ other.method → one.factor ≡ other.factor → one ≡ other
same_parts one other archives method factor = λ i. record { archives = archives i; method = method i; factor = factor i }

pub parts_of_known : (one other : Known) → one ≡ other → (one.layout ≡ other.layout) × (one.is_kept ≡ other.is_kept) × (one.is_old ≡ other.is_old) × (one.drains ≡ other.drains)
parts_of_known one other same = (ap (λ (k : Known). k.layout) same, ap (λ (k : Known). k.is_kept) same, ap (λ (k : Known). k.is_old) same, ap (λ (k : Known). k.drains) same)

pub parts_of_layout : (one other : LayoutValue) → one ≡ other → (one.archives ≡ other.archives) × (one.method ≡ other.method) × (one.factor ≡ other.factor)
parts_of_layout one other same = (ap (λ (l : LayoutValue). l.archives) same, ap (λ (l : LayoutValue). l.method) same, ap (λ (l : LayoutValue). l.factor) same)

some_same : {A : Type 0} (x y : A) → Some x ≡ Some y → x ≡ y
some_same x y same = cc same

-- what a desk has at a place is a metric, and so are its path, its points and what is known of it
pub same_at : (desk : DeskInside) (place : ℕ) (metric : NextMetric) (path : List ℕ) (known : Known) → slice_get desk.cache.places place ≡ Some path → IsDrainable desk.table path known → IsMetricAt desk place metric
    → (path ≡ metric.path) × (points_of desk.cache.metrics path ≡ metric.points) × (known ≡ metric.known)
same_at desk place metric path known there drainable at =
    let one : path ≡ metric.path = some_same path metric.path (sym there ∙ at.there) in (
      one,
      ap (λ (p : List ℕ). points_of desk.cache.metrics p) one ∙ sym at.points,
      some_same known metric.known (sym drainable.there ∙ ap (λ (p : List ℕ). entry_of desk.table p) one ∙ at.drainable.there),
    )

-- ---- what is compared

and_left : (x y : Bool) → (x && y) ≡ true → x ≡ true
and_left true y e = refl
and_left false y e = absurd (true≢false (sym e))

and_right : (x y : Bool) → (x && y) ≡ true → y ≡ true
and_right true y e = e
and_right false y e = absurd (true≢false (sym e))

and_both : (x y : Bool) → x ≡ true → y ≡ true → (x && y) ≡ true
and_both true y one other = other
and_both false y one other = absurd (true≢false (sym one))

-- the test of two points tells whether they are one
pub same_point : (a b : ℕ × ℤ) → Decides (a.0 == b.0 && int_eq a.1 b.1) (a ≡ b)
same_point a b = (
  λ yes.
      let time = (Decides-eqb a.0 b.0).0 (and_left (a.0 == b.0) (int_eq a.1 b.1) yes) in
      let value = (Decides-int_eq a.1 b.1).0 (and_right (a.0 == b.0) (int_eq a.1 b.1) yes) in
      λ i. (time i, value i),
  λ same.
      and_both (a.0 == b.0) (int_eq a.1 b.1) ((Decides-eqb a.0 b.0).1 (ap (λ (p : ℕ × ℤ). p.0) same)) ((Decides-int_eq a.1 b.1).1 (ap (λ (p : ℕ × ℤ). p.1) same)),
)
