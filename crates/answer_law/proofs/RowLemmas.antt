-- A state has one list of rows for needs, where what it keeps of their metrics is known.
use Rattle.std.proofs.Common.{◌≡◌, ◌∙◌, inl, inr, ℕ, suc, List, [], ◌∷◌, All, length, map, Option, Some, None, refl, sym, ap, subst, true≢false, arith}
use Rattle.std.specs.Prelude.{Contains, IfSome, IsSome, IsSomeAnd}
use Rattle.std.proofs.lemmas.List.Elements.{All-head, All-tail}
use Rattle.outside_io.specs.Image.{Image}
use Rattle.metric_path.specs.Class.{class_of}
use Rattle.carbon_model.specs.declared.series.Series.{Series}
use Rattle.carbon_model.specs.Series.{series_at}
use Rattle.carbon_model.specs.State.{State}
use Rattle.carbon_model.proofs.FoundLemmas.{same_members}
use Rattle.series_set.specs.Series.{SeriesValue}
use Rattle.render_need.specs.declared.need.Need.{Need}
use Rattle.render_need.specs.Rows.{Rows}
use Rattle.found_rows.specs.Rows.{AreRowsOf, FindsOf, HasRows, IsOf, IsRow, IsShown}
use Rattle.answer_law.specs.Told.{AreTold, IsTold}
use Rattle.answer_law.proofs.SortLemmas.{head_same, tail_same}

-- ---- series

-- the series has a name and a path, and is this one in all else
one_series : (o : Option Series) (x y : SeriesValue) → x.name ≡ y.name → x.path ≡ y.path
    → IsSomeAnd o (λ shown. IsOf shown x) → IsSomeAnd o (λ shown. IsOf shown y) → x ≡ y
one_series None x y name path one other = absurd one
one_series (Some shown) x y name path one other = λ i. record {
  name = name i;
  path = path i;
  start = (one.start ∙ sym other.start) i;
  step = (one.step ∙ sym other.step) i;
  values = (one.values ∙ sym other.values) i;
}

abbrev paths_in : List SeriesValue → List (List ℕ)
paths_in row = map (λ series. series.path) row

here : {X : Type 0} (x : X) (xs : List X) → Contains (x ∷ xs) x
here x xs = (0, omega arith, refl)

behind : {X : Type 0} (x y : X) (xs : List X) → Contains xs y → Contains (x ∷ xs) y
behind x y xs c = (suc c.0, omega (arith, c.1), c.2)

module _ (told : ℕ → Option Image) (s : State) (now : ℕ) where
  -- what is known is what the state shows
  known : (need : Need) (series : SeriesValue) → IsTold told s series.path → IsShown told s now need series
      → IsSomeAnd (series_at s series.path now need.from need.until) (λ shown. IsOf shown series)
  known need series (inr bare) is = is.bare bare
  known need series (inl tells) is = by (told (class_of series.path)) tells is.kept
    where
      by : (o : Option Image) → IsSome o
          → IfSome o (λ opening. IsSomeAnd (series_at s series.path now need.from need.until) (λ shown. IsOf shown series))
          → IsSomeAnd (series_at s series.path now need.from need.until) (λ shown. IsOf shown series)
      by None some kept = absurd (true≢false (sym some))
      by (Some opening) some kept = kept

  one_shown : (need : Need) (x y : SeriesValue) → x.path ≡ y.path → IsTold told s x.path → IsShown told s now need x → IsShown told s now need y → x ≡ y
  one_shown need x y path tells one other =
      let at : IsTold told s y.path = subst (λ (p : List ℕ). IsTold told s p) path tells in
      let shown = subst (λ (p : List ℕ). IsSomeAnd (series_at s p now need.from need.until) (λ shown. IsOf shown y)) (sym path) (known need y at other) in
      one_series (series_at s x.path now need.from need.until) x y (one.named ∙ (path ∙ sym other.named)) path (known need x tells one) shown

  -- ---- rows

  one_series_each : (need : Need) (xs ys : List SeriesValue) → paths_in xs ≡ paths_in ys → ((path : List ℕ) → Contains (paths_in xs) path → IsTold told s path)
      → All (IsShown told s now need) xs → All (IsShown told s now need) ys → xs ≡ ys
  one_series_each need [] [] same tells one other = refl
  one_series_each need [] (y ∷ ys) same tells one other = absurd (omega (arith, ap length same))
  one_series_each need (x ∷ xs) [] same tells one other = absurd (omega (arith, ap length same))
  one_series_each need (x ∷ xs) (y ∷ ys) same tells one other =
      let first = one_shown need x y (head_same x.path y.path (paths_in xs) (paths_in ys) same) (tells x.path (here x.path (paths_in xs)))
      (All-head (IsShown told s now need) x xs one) (All-head (IsShown told s now need) y ys other) in
      let others = one_series_each need xs ys (tail_same x.path y.path (paths_in xs) (paths_in ys) same)
      (λ path c. tells path (behind x.path path (paths_in xs) c))
      (All-tail (IsShown told s now need) x xs one) (All-tail (IsShown told s now need) y ys other) in
      λ i. first i ∷ others i

  one_paths : (need : Need) (xs ys : List (List ℕ)) → FindsOf s now need xs → FindsOf s now need ys → xs ≡ ys
  one_paths need xs ys one other =
      same_members xs ys one.in_order other.in_order (λ p c. (other.found p).1 ((one.found p).0 c)) (λ p c. (one.found p).1 ((other.found p).0 c))

  one_row : (all : List Need) → AreTold told s now all → (need : Need) → Contains all need
      → (xs ys : List SeriesValue) → IsRow told s now need xs → IsRow told s now need ys → xs ≡ ys
  one_row all tells need among xs ys one other =
      one_series_each need xs ys (one_paths need (paths_in xs) (paths_in ys) one.found other.found)
      (λ path c. let found = (one.found.found path).0 c in tells path (record { need = need; one = among; asked = found.0; known = found.1 }))
      one.each other.each

  one_list_of_rows : (all : List Need) → AreTold told s now all → (needs : List Need) → ((need : Need) → Contains needs need → Contains all need)
      → (xs ys : Rows) → AreRowsOf told s now needs xs → AreRowsOf told s now needs ys → xs ≡ ys
  one_list_of_rows all tells [] among xs ys one other = one ∙ sym other
  one_list_of_rows all tells (need ∷ needs) among [] ys one other = absurd one
  one_list_of_rows all tells (need ∷ needs) among (x ∷ xs) [] one other = absurd other
  one_list_of_rows all tells (need ∷ needs) among (x ∷ xs) (y ∷ ys) one other =
      let first = one_row all tells need (among need (here need needs)) x y one.0 other.0 in
      let others = one_list_of_rows all tells needs (λ n c. among n (behind need n needs c)) xs ys one.1 other.1 in
      λ i. first i ∷ others i

  pub rows_once : (needs : List Need) → AreTold told s now needs → (xs ys : Rows) → HasRows told s now needs xs → HasRows told s now needs ys → xs ≡ ys
  rows_once needs tells xs ys one other = one_list_of_rows needs tells needs (λ need c. c) xs ys one.are other.are
