-- Sorting by places in an order.
use Rattle.std.proofs.Common.{◌≡◌, ℤ, Bool, true, false, List, Option, Some, None, sym, subst, ◌∙◌, arith, int_cmp, int_lt, neg_ℤ}
use Rattle.std.specs.Cmp.{IsStrictWeakOrder}
use Rattle.std.specs.List.Sorted.{IsPermutation, IsSortedBy, IsStableBy, IsSortedByKey, IsStableByKey}
use Rattle.std.specs.Ordering.{is_lt}
use Rattle.std.specs.declared.cmp.Ordering.{Ordering}
use Rattle.std.proofs.lemmas.Cmp.{nat_list_cmp_total}
use Rattle.std.proofs.lemmas.Int.{ints}
use Rattle.std.proofs.lemmas.List.MinMax.{ranks_by}
use Rattle.series_set.specs.Series.{SeriesValue}
use Rattle.series_pick.specs.declared.measures.Measure.{Measure}
use Rattle.series_pick.specs.declared.measures.First.{First}
use Rattle.series_pick.specs.declared.measures.First.TheVariants.{Greatest, Least}
use Rattle.series_pick.specs.declared.sorting.Place.{Place}
use Rattle.series_pick.specs.declared.sorting.Place.TheVariants.{Number, Last}
use Rattle.series_pick.specs.Chosen.{Sorts, by_name}
use Rattle.series_pick.specs.Measures.{by_measure, measure_of, precedes}
use Rattle.series_pick.specs.Places.{place_of}

-- what the list was before and after it was a vector
pub sorts_moved : (before : SeriesValue → SeriesValue → Bool) (set xs ys result : List SeriesValue) → xs ≡ set → result ≡ ys → Sorts before xs ys → Sorts before set result
sorts_moved before set xs ys result from to sorts =
    subst (λ (set : List SeriesValue). Sorts before set result) from (subst (λ (result : List SeriesValue). Sorts before xs result) (sym to) sorts)

-- ---- measures

pub less_is : (a b : ℤ) → is_lt (int_cmp a b) ≡ int_lt a b
less_is a b = grind (arith, ints)

turned : (a b : ℤ) → int_lt (neg_ℤ a) (neg_ℤ b) ≡ int_lt b a
turned a b = grind (arith, ints)

module _ (cmp : Place → Place → Ordering) (less : (a b : ℤ) → is_lt (cmp (Number a) (Number b)) ≡ int_lt a b) (known : (a : ℤ) → is_lt (cmp (Number a) Last) ≡ true)
    (unknown : (a : ℤ) → is_lt (cmp Last (Number a)) ≡ false) (neither : is_lt (cmp Last Last) ≡ false) where
  agrees : (first : First) (p q : Option ℤ) → is_lt (cmp (place_of first p) (place_of first q)) ≡ precedes first p q
  agrees Greatest None None = neither
  agrees Greatest None (Some b) = unknown (neg_ℤ b)
  agrees Greatest (Some a) None = known (neg_ℤ a)
  agrees Greatest (Some a) (Some b) = less (neg_ℤ a) (neg_ℤ b) ∙ turned a b
  agrees Least None None = neither
  agrees Least None (Some b) = unknown b
  agrees Least (Some a) None = known a
  agrees Least (Some a) (Some b) = less a b

  pub sorts_by_place : (measure : Measure) (first : First) (xs ys : List SeriesValue) → IsPermutation xs ys
      → IsSortedByKey (λ s. place_of first (measure_of measure s)) cmp ys → IsStableByKey (λ s. place_of first (measure_of measure s)) cmp xs ys → Sorts (by_measure measure first) xs ys
  sorts_by_place measure first xs ys same ordered stable =
      let tests : (λ (x y : SeriesValue). is_lt (cmp (place_of first (measure_of measure x)) (place_of first (measure_of measure y)))) ≡ by_measure measure first =
      λ i x y. agrees first (measure_of measure x) (measure_of measure y) i in
      record {
        same = same;
        ordered = subst (λ (lt : SeriesValue → SeriesValue → Bool). IsSortedBy lt ys) tests ordered;
        stable = subst (λ (lt : SeriesValue → SeriesValue → Bool). IsStableBy lt xs ys) tests stable;
      }

-- ---- names

pub by_name_ranks : IsStrictWeakOrder by_name
by_name_ranks = ranks_by nat_list_cmp_total (λ (s : SeriesValue). s.name)
