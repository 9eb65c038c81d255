-- What needs find is one list for each, and rows have as many series, and at least as many values, as are counted.
use Rattle.std.proofs.Common.{◌≡◌, ◌∙◌, ℕ, ℤ, ◌+◌, ◌-◌, ◌*◌, ◌/◌, ◌≤◌, List, [], ◌∷◌, ◌++◌, All, length, map, Option, Some, None, refl, sym, ap, arith, length-append, slice_get}
use Rattle.std.specs.Option.{option_map_or}
use Rattle.std.proofs.lemmas.List.{length-map}
use Rattle.std.proofs.lemmas.List.Elements.{All-head, All-tail}
use Rattle.std.proofs.lemmas.List.FromFn.{length-map-range_with_len}
use Rattle.outside_io.specs.Image.{Image}
use Rattle.ring_format.specs.Layout.{LayoutValue}
use Rattle.ring_format.specs.declared.archive.Archive.{Archive}
use Rattle.ring_archive.specs.Ring.{Rings}
use Rattle.series_fetch.specs.declared.range.Window.{Window}
use Rattle.series_fetch.specs.declared.range.Window.TheVariants.{Empty, Range}
use Rattle.series_fetch.specs.Shown.{shown_from, shown_in}
use Rattle.series_fetch.specs.Window.{window}
use Rattle.carbon_model.specs.declared.series.Series.{Series}
use Rattle.carbon_model.specs.Series.{series_in, series_of}
use Rattle.carbon_model.specs.State.{Kept, State, layout_or, no_rings, points_in}
use Rattle.carbon_model.proofs.FoundLemmas.{same_members}
use Rattle.series_set.specs.Series.{SeriesValue}
use Rattle.render_need.specs.declared.need.Need.{Need}
use Rattle.render_need.specs.Rows.{Rows, concat}
use Rattle.found_rows.specs.Rows.{AreRowsOf, FindsAll, FindsOf, HasRows, HasTooManyPoints, HasTooManySeries, IsShown, ShowsPending, points_of, series_count, value_count, value_count_all, value_count_of}

-- ---- one list

one_of : (s : State) (now : ℕ) (need : Need) (xs ys : List (List ℕ)) → FindsOf s now need xs → FindsOf s now need ys → xs ≡ ys
one_of s now need xs ys one other =
    same_members xs ys one.in_order other.in_order (λ p c. (other.found p).1 ((one.found p).0 c)) (λ p c. (one.found p).1 ((other.found p).0 c))

pub one_found : (s : State) (now : ℕ) (needs : List Need) (xs ys : List (List (List ℕ))) → FindsAll s now needs xs → FindsAll s now needs ys → xs ≡ ys
one_found s now [] xs ys one other = one ∙ sym other
one_found s now (need ∷ needs) [] ys one other = absurd one
one_found s now (need ∷ needs) (x ∷ xs) [] one other = absurd other
one_found s now (need ∷ needs) (x ∷ xs) (y ∷ ys) one other =
    let first = one_of s now need x y one.0 other.0 in
    let others = one_found s now needs xs ys one.1 other.1 in
    λ i. first i ∷ others i

pub one_series_count : (s : State) (now : ℕ) (needs : List Need) (a b : ℕ) → HasTooManySeries s now needs a → HasTooManySeries s now needs b → a ≡ b
one_series_count s now needs a b one other =
    sym one.all ∙ (ap series_count (one_found s now needs one.found other.found one.finds other.finds) ∙ other.all)

pub one_point_count : (s : State) (now : ℕ) (needs : List Need) (a b : ℕ) → HasTooManyPoints s now needs a → HasTooManyPoints s now needs b → a ≡ b
one_point_count s now needs a b one other =
    sym one.all ∙ (ap (value_count_all s now needs) (one_found s now needs one.found other.found one.finds other.finds) ∙ other.all)

pub counts_apart : (s : State) (now : ℕ) (needs : List Need) (a b : ℕ) → HasTooManySeries s now needs a → HasTooManyPoints s now needs b → ⊥
counts_apart s now needs a b series points =
    let same = ap series_count (one_found s now needs series.found points.found series.finds points.finds) in
    omega (arith, series.many, series.all, points.few, same)

-- ---- how many values are shown

-- as many are shown over any archives
same_length : (layout : LayoutValue) (rings others : Rings) (points : List (ℕ × ℤ)) (i first end : ℕ) (o : Option Archive)
    → length (option_map_or (λ archive. shown_from layout rings points i archive.step first ((end - first) / archive.step)) o [])
    ≡ length (option_map_or (λ archive. shown_from layout others points i archive.step first ((end - first) / archive.step)) o [])
unfolding shown_from
same_length layout rings others points i first end None = refl
same_length layout rings others points i first end (Some archive) =
    length-map-range_with_len (λ k. shown_in layout rings points i archive.step (first + k * archive.step)) 0 ((end - first) / archive.step)
    ∙ sym (length-map-range_with_len (λ k. shown_in layout others points i archive.step (first + k * archive.step)) 0 ((end - first) / archive.step))

count_in : (layout : LayoutValue) (rings : Rings) (points : List (ℕ × ℤ)) (w : Window) (series : SeriesValue) → ShowsPending layout points w series
    → option_map_or (λ (x : Series). length x.values) (series_in layout rings points w) 0 ≤ length series.values
count_in layout rings points Empty series shows = omega arith
count_in layout rings points (Range i first end) series (others, is) =
    let same = same_length layout rings others points i first end (slice_get layout.archives i) in
    let values = ap length is.values in
    omega (arith, same, values)

count_of : (given : LayoutValue) (o : Option Kept) (points : List (ℕ × ℤ)) (now from until : ℕ) (series : SeriesValue)
    → ShowsPending (layout_or given o) points (window (layout_or given o) now from until) series
    → option_map_or (λ (x : Series). length x.values) (series_of given o points now from until) 0 ≤ length series.values
count_of given None [] now from until series shows = omega arith
count_of given None (p ∷ ps) now from until series shows = count_in given no_rings (p ∷ ps) (window given now from until) series shows
count_of given (Some kept) points now from until series shows = count_in kept.layout kept.rings points (window kept.layout now from until) series shows

-- ---- what rows have

abbrev paths_in : List SeriesValue → List (List ℕ)
paths_in row = map (λ series. series.path) row

points_append : (xs ys : List SeriesValue) → points_of (xs ++ ys) ≡ points_of xs + points_of ys
points_append [] ys = omega arith
points_append (x ∷ xs) ys = omega (arith, points_append xs ys)

series_counted : (rows : Rows) → series_count (map paths_in rows) ≡ length (concat rows)
series_counted [] = refl
series_counted (row ∷ rows) = omega (arith, length-map row (λ (x : SeriesValue). x.path), length-append row (concat rows), series_counted rows)

module _ (told : ℕ → Option Image) (s : State) (now : ℕ) where
  row_counted : (need : Need) (row : List SeriesValue) → All (IsShown told s now need) row → value_count_of s now need (paths_in row) ≤ points_of row
  row_counted need [] all = omega arith
  row_counted need (x ∷ row) all =
      let is = All-head (IsShown told s now need) x row all in
      let first : value_count s now need x.path ≤ length x.values = count_of (s.rules x.path) (s.kept x.path) (points_in s x.path) now need.from need.until x is.pending in
      omega (arith, first, row_counted need row (All-tail (IsShown told s now need) x row all))

  rows_find : (needs : List Need) (rows : Rows) → AreRowsOf told s now needs rows → FindsAll s now needs (map paths_in rows)
  rows_find [] rows are = ap (map paths_in) are
  rows_find (need ∷ needs) [] are = absurd are
  rows_find (need ∷ needs) (row ∷ rows) are = (are.0.found, rows_find needs rows are.1)

  rows_counted : (needs : List Need) (rows : Rows) → AreRowsOf told s now needs rows → value_count_all s now needs (map paths_in rows) ≤ points_of (concat rows)
  rows_counted [] rows are = omega arith
  rows_counted (need ∷ needs) [] are = absurd are
  rows_counted (need ∷ needs) (row ∷ rows) are =
      omega (arith, row_counted need row are.0.each, rows_counted needs rows are.1, points_append row (concat rows))

  pub rows_have_few_series : (needs : List Need) (rows : Rows) (count : ℕ) → HasRows told s now needs rows → HasTooManySeries s now needs count → ⊥
  rows_have_few_series needs rows count has many =
      let same = ap series_count (one_found s now needs many.found (map paths_in rows) many.finds (rows_find needs rows has.are)) in
      omega (arith, has.few, many.many, many.all, same, series_counted rows)

  pub rows_have_few_points : (needs : List Need) (rows : Rows) (count : ℕ) → HasRows told s now needs rows → HasTooManyPoints s now needs count → ⊥
  rows_have_few_points needs rows count has many =
      let same = ap (value_count_all s now needs) (one_found s now needs many.found (map paths_in rows) many.finds (rows_find needs rows has.are)) in
      omega (arith, has.short, many.many, many.all, same, rows_counted needs rows has.are)
