-- The series of a metric that was looked at.
use Rattle.std.proofs.Common.{◌≡◌, ◌∙◌, ℕ, ℤ, ◌<◌, ◌≤◌, ◌+◌, ◌-◌, ◌*◌, ◌/◌, ◌^◌, List, length, Option, Some, None, refl, sym, ap, subst, arith, slice_get, option_map, unwrap_or}
use Rattle.std.specs.Prelude.{IfSome}
use Rattle.std.specs.Option.{option_map_or}
use Rattle.std.proofs.lemmas.Nat.{div-mul-add}
use Rattle.std.proofs.lemmas.Option.{slice_get_within}
use Rattle.ring_format.specs.Layout.{LayoutValue}
use Rattle.ring_format.specs.declared.archive.Archive.{Archive}
use Rattle.archive_update.specs.Batch.{step_of}
use Rattle.series_fetch.specs.declared.range.Window.{Window}
use Rattle.series_fetch.specs.declared.range.Window.TheVariants.{Range}
use Rattle.series_fetch.specs.Window.{HasBuckets, IsStretchOf, IsWindow}
use Rattle.series_set.specs.Series.{IsSeries, SeriesValue, end_of}
use Rattle.shard_core.specs.Looks.{bucket_count}
use Rattle.shard_core.specs.declared.looked.Looked.{Looked}
use Rattle.shared_store.specs.Asking.{HasGrid, IsSeriesOf, buckets_of}

front : (a b c : ℕ) → c ≡ a + b → a ≤ c
front a b c e = omega (arith, e)

pub place_within : (layout : LayoutValue) (i first end : ℕ) → IsWindow layout (Range i first end) → i < length layout.archives
place_within layout i first end w = by (slice_get layout.archives i) refl w
  where
    by : (o : Option Archive) → slice_get layout.archives i ≡ o → IsStretchOf o first end → i < length layout.archives
    by None e w = absurd w
    by (Some a) e w = slice_get_within layout.archives i a e

pub first_before : (layout : LayoutValue) (i first end : ℕ) → IsWindow layout (Range i first end) → first ≤ end
first_before layout i first end w = by (slice_get layout.archives i) w
  where
    by : (o : Option Archive) → IsStretchOf o first end → first ≤ end
    by None w = absurd w
    by (Some a) w = front first (w.0 * a.step) end w.1.ends

-- so many buckets of an archive
module _ (layout : LayoutValue) (i first end n : ℕ) (a : Archive) (there : slice_get layout.archives i ≡ Some a) (buckets : HasBuckets layout (Range i first end) n) where
  stretch : (end ≡ first + n * a.step) × (end < 2 ^ 32)
  stretch = subst (λ (o : Option Archive). IfSome o (λ archive. (end ≡ first + n * archive.step) × (end < 2 ^ 32))) there buckets

  length_of : end - first ≡ n * a.step + 0
  length_of = by (n * a.step) stretch.0
    where
      by : (m : ℕ) → end ≡ first + m → end - first ≡ m + 0
      by m e = omega (arith, e)

  pub count_is : 1 ≤ a.step → n ≡ bucket_count layout (Range i first end)
  count_is some = sym (ap (λ (o : Option Archive). option_map_or (λ archive. (end - first) / archive.step) o 0) there
      ∙ (ap (λ (m : ℕ). m / a.step) length_of ∙ div-mul-add n a.step 0 some))

  pub step_is : step_of layout.archives i ≡ a.step
  step_is = ap (λ (o : Option Archive). unwrap_or (option_map (λ (archive : Archive). archive.step) o) 0) there

  pub ends_by : first + n * a.step < 2 ^ 32
  ends_by = subst (λ (m : ℕ). m < 2 ^ 32) stretch.0 stretch.1

sooner : (a : ℕ) → a < 2 ^ 32 → a ≤ 2 ^ 62
sooner a less = omega (arith, less)

soon : (a : ℕ) → a < 2 ^ 32 → a ≤ 5000000000
soon a less = omega (arith, less)

fewer : (n m : ℕ) → n ≡ m → m ≤ 4000000 → n ≤ 4000000
fewer n m e le = omega (arith, e, le)

module _ (looked : Looked) (i first end : ℕ) (is : looked.window ≡ Range i first end) (a : Archive) (there : slice_get looked.layout.archives i ≡ Some a) (series : SeriesValue)
    (start : series.start ≡ first) (step : series.step ≡ a.step) (buckets : HasBuckets looked.layout looked.window (length series.values)) (some : 1 ≤ a.step) (short : a.step ≤ 31536000) where
  here : HasBuckets looked.layout (Range i first end) (length series.values)
  here = subst (λ (w : Window). HasBuckets looked.layout w (length series.values)) is buckets

  count : length series.values ≡ buckets_of looked
  unfolding buckets_of
  count = count_is looked.layout i first end (length series.values) a there here some ∙ ap (λ (w : Window). bucket_count looked.layout w) (sym is)

  end_is : end_of series < 2 ^ 32
  end_is = subst (λ (n : ℕ). n < 2 ^ 32) (λ j. sym start j + length series.values * sym step j) (ends_by looked.layout i first end (length series.values) a there here)

  pub is_series : buckets_of looked ≤ 4000000 → IsSeries series
  is_series few = record {
    some = subst (λ (n : ℕ). 1 ≤ n) (sym step) some;
    few = fewer (length series.values) (buckets_of looked) count few;
    early = sooner (end_of series) end_is;
  }

  pub is_series_of : (values : List (Option ℤ)) → series.values ≡ values → series.path ≡ looked.path → series.name ≡ series.path → IsSeriesOf looked values series
  is_series_of values same path named = record {
    path = path;
    named = named;
    grid = subst (λ (w : Window). HasGrid looked.layout w series) (sym is) (start, step ∙ sym (step_is looked.layout i first end (length series.values) a there here));
    values = same;
    count = count;
    early = record { short = subst (λ (n : ℕ). n ≤ 31536000) (sym step) short; early = soon (end_of series) end_is };
  }
