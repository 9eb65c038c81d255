use Rattle.std.proofs.Common.{rules, refl, ◌≡◌, ◌∙◌, ℤ, List, Option, sym, subst}
use Rattle.std.specs.Prelude.{string_bytes, length}
use Rattle.series_set.specs.Series.{SeriesValue}
use Rattle.series_fetch.specs.declared.range.Window.TheVariants.{Range}
use Rattle.series_fetch.specs.Window.{HasBuckets}
use Rattle.shared_store.specs.Asking.{IsSeriesOf}
use Rattle.shared_store.proofs.AskSeriesLemmas.{is_series, is_series_of}
use Rattle.shared_store.proofs.reading.series_of.Goals as goal

pub from_legal-requires : goal.from_legal-requires
from_legal-requires c =
    let looked = c.args.looked.now in
    let series : SeriesValue = record {
      name = string_bytes c.in_ok-name.name;
      path = string_bytes c.in_ok-path.path;
      start = c.in-Range.first;
      step = c.from-step.result;
      values = c.in_ok-values.values.items;
    } in
    let window : looked.window ≡ Range c.in-Range.i c.in-Range.first c.in-Range.field-2 = search rules in
    let step : c.from-step.result ≡ c.archive.result.step = search rules in
    let values : c.in_ok-values.values.items ≡ c.args.values = c.in_ok-values.ensures ∙ c.into_vec.ensures in
    let buckets : HasBuckets looked.layout looked.window (length c.in_ok-values.values.items) =
    subst (λ (v : List (Option ℤ)). HasBuckets looked.layout looked.window (length v)) (sym values) c.requires.count in
    is_series looked c.in-Range.i c.in-Range.first c.in-Range.field-2 window c.archive.result c.archive.ensures.value series refl step buckets c.archive.ensures.step.0 c.archive.ensures.step.1 c.requires.few

pub returns : goal.returns
returns c =
    let looked = c.args.looked.now in
    let series : SeriesValue = record {
      name = string_bytes c.in_ok-name.name;
      path = string_bytes c.in_ok-path.path;
      start = c.in-Range.first;
      step = c.from-step.result;
      values = c.in_ok-values.values.items;
    } in
    let window : looked.window ≡ Range c.in-Range.i c.in-Range.first c.in-Range.field-2 = search rules in
    let step : c.from-step.result ≡ c.archive.result.step = search rules in
    let values : c.in_ok-values.values.items ≡ c.args.values = c.in_ok-values.ensures ∙ c.into_vec.ensures in
    let buckets : HasBuckets looked.layout looked.window (length c.in_ok-values.values.items) =
    subst (λ (v : List (Option ℤ)). HasBuckets looked.layout looked.window (length v)) (sym values) c.requires.count in
    let path : string_bytes c.in_ok-path.path ≡ looked.path = c.in_ok-path.ensures.ok ∙ c.as_str-2.ensures.value in
    let named : string_bytes c.in_ok-name.name ≡ string_bytes c.in_ok-path.path = c.in_ok-name.ensures.ok ∙ (c.as_str.ensures.value ∙ sym path) in
    subst (IsSeriesOf looked c.args.values) (sym c.from_legal.ensures)
    (is_series_of looked c.in-Range.i c.in-Range.first c.in-Range.field-2 window c.archive.result c.archive.ensures.value series refl step buckets
    c.archive.ensures.step.0 c.archive.ensures.step.1 c.args.values values path named)
