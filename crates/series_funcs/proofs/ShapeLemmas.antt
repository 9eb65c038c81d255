-- Shaped values are as many as before.
use Rattle.std.proofs.Common.{◌≡◌, ℕ, ℤ, ◌*◌, neg_ℤ, List, length, Option, Some, None, refl, ap, ◌∙◌, arith}
use Rattle.std.specs.Int.{int_min}
use Rattle.std.specs.List.{reduce}
use Rattle.std.specs.Option.{option_map_or}
use Rattle.std.proofs.lemmas.List.{length-map}
use Rattle.std.proofs.lemmas.List.FromFn.{length-map-range_with_len}
use Rattle.series_set.specs.Series.{IsSeries, SeriesValue}
use Rattle.series_set.specs.Average.{known}
use Rattle.series_funcs.specs.declared.changing.Change.{Change}
use Rattle.series_funcs.specs.declared.changing.Change.TheVariants.{Plus}
use Rattle.series_funcs.specs.declared.kinds.Shape.{Shape}
use Rattle.series_funcs.specs.declared.kinds.Shape.TheVariants.{Absolute, Scale, Offset, OffsetToZero, Derivative, NonNegativeDerivative, PerSecond, Integral, Delay, KeepLastValue, TransformNull, IsNonNull, Changed, RemoveAboveValue, RemoveBelowValue, ScaleToSeconds, Summarize, TimeShift}
use Rattle.series_funcs.specs.Shaped.{above_least, at_places, change_at, changed_each, changed_value, delayed_at, derivative_at, integral_at, kept_at, rises, shaped_values}

changed-length : (change : Change) (values : List (Option ℤ)) → length (changed_each change values) ≡ length values
unfolding changed_each
changed-length change values = length-map values (changed_value change)

placed-length : (f : List (Option ℤ) → ℕ → Option ℤ) (values : List (Option ℤ)) → length (at_places f values) ≡ length values
placed-length f values = length-map-range_with_len (f values) 0 (length values)

least-length : (values : List (Option ℤ)) → length (above_least values) ≡ length values
unfolding above_least
least-length values = by (reduce int_min (known values))
  where
    by : (least : Option ℤ) → length (option_map_or (λ least. changed_each (Plus (neg_ℤ least)) values) least values) ≡ length values
    by None = refl
    by (Some least) = changed-length (Plus (neg_ℤ least)) values

rises-length : (values : List (Option ℤ)) → length (rises values) ≡ length values
rises-length values = changed-length _ (at_places derivative_at values) ∙ placed-length derivative_at values

pub length-shaped : (kind : Shape) (step : ℕ) (values : List (Option ℤ)) → length (shaped_values kind step values) ≡ length values
unfolding shaped_values
length-shaped Absolute step values = changed-length _ values
length-shaped (Scale x) step values = changed-length _ values
length-shaped (Offset x) step values = changed-length _ values
length-shaped OffsetToZero step values = least-length values
length-shaped Derivative step values = placed-length derivative_at values
length-shaped NonNegativeDerivative step values = rises-length values
length-shaped PerSecond step values = changed-length _ (rises values) ∙ rises-length values
length-shaped Integral step values = placed-length integral_at values
length-shaped (Delay x) step values = placed-length (delayed_at x) values
length-shaped (KeepLastValue x) step values = placed-length (kept_at x) values
length-shaped (TransformNull x) step values = changed-length _ values
length-shaped IsNonNull step values = changed-length _ values
length-shaped Changed step values = placed-length change_at values
length-shaped (RemoveAboveValue x) step values = changed-length _ values
length-shaped (RemoveBelowValue x) step values = changed-length _ values
length-shaped (ScaleToSeconds x) step values = changed-length _ values
length-shaped (Summarize x y) step values = refl
length-shaped (TimeShift x y) step values = refl

pub same_length_is : (s : SeriesValue) (values : List (Option ℤ)) → IsSeries s → length values ≡ length s.values → IsSeries (record s { values = values })
same_length_is s values is many = record { some = is.some; few = omega (arith, many, is.few); early = omega (arith, ap (λ (n : ℕ). n * s.step) many, is.early) }
