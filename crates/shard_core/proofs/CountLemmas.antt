-- What is counted is what a look finds.
use Rattle.std.proofs.Common.{◌≡◌, ◌∙◌, arith, ℕ, ◌+◌, List, [], ◌∷◌, length, map, refl, sym, ap}
use Rattle.std.specs.List.{sum_by}
use Rattle.std.proofs.lemmas.List.Sums.{sum_by-cons}
use Rattle.metric_table.specs.Table.{seen}
use Rattle.metric_table.specs.declared.found_metric.FoundMetric.{FoundMetric}
use Rattle.metric_table.specs.declared.known.Known.{Known}
use Rattle.carbon_model.specs.State.{State}
use Rattle.point_cache.specs.Pending.{Metrics, points_of}
use Rattle.series_fetch.specs.Window.{window}
use Rattle.series_fetch.specs.declared.range.Window.{Window}
use Rattle.series_fetch.specs.declared.range.Window.TheVariants.{Empty, Range}
use Rattle.shard_core.specs.Looks.{CountsFor, CountsFound, CountsLooks, FindsFor, IsFoundIn, bucket_count, buckets_at, buckets_of, looked_as, looked_if, looked_in, series_at, series_of}
use Rattle.shard_core.specs.Shard.{Inside}
use Rattle.shard_core.specs.declared.looked.LookCount.{LookCount}
use Rattle.shard_core.specs.declared.looked.Looked.{Looked}
use Rattle.shard_core.proofs.LookLemmas.{looks_of, points_here}

length_by : (w : Window) (metrics : Metrics) (m : List ℕ × Known) (looked : List Looked) → length (looked_if metrics w m looked) ≡ series_of w + length looked
length_by Empty metrics m looked = omega arith
length_by (Range i first end) metrics m looked = omega arith

length_looked : (metrics : Metrics) (now from until : ℕ) (found : List FoundMetric) → length (looked_in metrics now from until (map seen found)) ≡ sum_by (series_at now from until) found
length_looked metrics now from until [] = refl
length_looked metrics now from until (m ∷ found) =
    length_by (window m.layout.now now from until) metrics (seen m) (looked_in metrics now from until (map seen found))
    ∙ ap (λ (n : ℕ). series_at now from until m + n) (length_looked metrics now from until found)
    ∙ sym (sum_by-cons (series_at now from until) m found)

buckets_by : (w : Window) (metrics : Metrics) (m : List ℕ × Known) (looked : List Looked) → sum_by buckets_of (looked_if metrics w m looked) ≡ bucket_count m.1.layout w + sum_by buckets_of looked
buckets_by Empty metrics m looked = omega arith
buckets_by (Range i first end) metrics m looked = sum_by-cons buckets_of (looked_as metrics (Range i first end) m) looked

buckets_looked : (metrics : Metrics) (now from until : ℕ) (found : List FoundMetric) → sum_by buckets_of (looked_in metrics now from until (map seen found)) ≡ sum_by (buckets_at now from until) found
buckets_looked metrics now from until [] = refl
buckets_looked metrics now from until (m ∷ found) =
    buckets_by (window m.layout.now now from until) metrics (seen m) (looked_in metrics now from until (map seen found))
    ∙ ap (λ (n : ℕ). buckets_at now from until m + n) (buckets_looked metrics now from until found)
    ∙ sym (sum_by-cons (buckets_at now from until) m found)

-- what is counted of the metrics that were found for a state
pub counts_for : (class : ℕ) (s : State) (fits : List ℕ → Type 0) (now from until : ℕ) (found : List FoundMetric) (count : LookCount) → FindsFor class s fits found → CountsFound now from until found count
    → CountsFor class s fits now from until count
counts_for class s fits now from until found count finds counts = record {
  looked = looked_in (s.pending class) now from until (map seen found);
  looks = looks_of class s fits now from until (s.pending class) found (λ path one. ap (λ (ms : Metrics). points_of ms path) (ap s.pending one)) finds;
  series = counts.series ∙ sym (length_looked (s.pending class) now from until found);
  values = counts.values ∙ sym (buckets_looked (s.pending class) now from until found);
}

-- and for a shard
pub counts_looks : (shard : Inside) (fits : List ℕ → Type 0) (now from until : ℕ) (found : List FoundMetric) (count : LookCount) → IsFoundIn shard fits found → CountsFound now from until found count
    → CountsLooks shard fits now from until count
counts_looks shard fits now from until found count finds counts = record {
  looked = looked_in shard.cache.metrics now from until (map seen found);
  looks = λ told s holds. looks_of shard.class s fits now from until shard.cache.metrics found (λ path one. points_here told shard s path one holds) (finds.states told s holds);
  series = counts.series ∙ sym (length_looked shard.cache.metrics now from until found);
  values = counts.values ∙ sym (buckets_looked shard.cache.metrics now from until found);
}
