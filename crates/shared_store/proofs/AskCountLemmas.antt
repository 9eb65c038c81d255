-- How much the needs of a question find: what is counted of the classes, in byte order of all paths.
use Rattle.std.proofs.Common.{◌≡◌, inl, inr, ◌∙◌, ℕ, ◌<◌, ◌+◌, Ordering, Equal, Greater, Less, List, [], ◌∷◌, ◌++◌, length, true≢false, refl, sym, ap, subst, arith, length-append}
use Rattle.std.specs.Prelude.{Contains}
use Rattle.std.specs.Cmp.Lexicographic.{slice_cmp}
use Rattle.std.specs.List.{AllByRecursion, sum_by}
use Rattle.std.specs.List.Sorted.{IsPermutation, IsStrictlySortedBy}
use Rattle.std.specs.Ordering.{is_eq, is_lt, nat_cmp, ordering_reverse}
use Rattle.std.proofs.lemmas.Cmp.{nat_list_cmp_total}
use Rattle.std.proofs.lemmas.List.{length-map}
use Rattle.std.proofs.lemmas.List.Elements.{All-contains, Contains-append_cases, Contains-append_left, Contains-append_right}
use Rattle.std.proofs.lemmas.List.Sorted.{Contains-permutation, IsPermutation-cons, IsPermutation-middle, IsPermutation-refl, IsPermutation-sym, IsPermutation-trans, length_permutation, sum_by-IsPermutation}
use Rattle.std.proofs.lemmas.List.Sums.{sum_by-append, sum_by-cons}
use Rattle.std.proofs.lemmas.Map.Keys.{sorted_tail}
use Rattle.std.proofs.lemmas.Map.Text.{is_eq-slice_cmp}
use Rattle.std.proofs.lemmas.Map.Views.{All-after_first}
use Rattle.std.proofs.lemmas.Slice.Eq.{bytes_eq-Decides}
use Rattle.std.proofs.Math.Nat.{mod-lt}
use Rattle.metric_path.specs.Class.{class_of, fnv1a}
use Rattle.carbon_history.specs.declared.entry.Entry.{Entry}
use Rattle.carbon_model.specs.State.{State}
use Rattle.shard_core.specs.Looks.{CountsFor, TellsOf, buckets_of, looked_paths}
use Rattle.metric_index.specs.Found.{IsFitted}
use Rattle.shard_core.specs.declared.looked.LookCount.{LookCount}
use Rattle.shard_core.specs.declared.looked.Looked.{Looked}
use Rattle.render_need.specs.declared.need.Need.{Need}
use Rattle.found_rows.specs.Rows.{FindsAll, series_count, value_count, value_count_all, value_count_of}
use Rattle.shared_store.specs.Counting.{CountsBelow, CountsNeed, CountsNeeds, SumsUp}
use Rattle.shared_store.proofs.AskFoundLemmas as found
use Rattle.shared_store.proofs.AskFoundLemmas.{first_or_later, here_first, in_later, nothing, path_in, value_counted}

-- ---- byte order

abbrev InOrder : List (List ℕ) → Type 0
InOrder paths = IsStrictlySortedBy (slice_cmp nat_cmp) paths

each_by : {X : Type 0} (P : X → Type 0) (xs : List X) → ((x : X) → Contains xs x → P x) → AllByRecursion P xs
each_by P [] each = tt
each_by P (x ∷ xs) each = (each x (here_first x xs x refl), each_by P xs (λ y c. each y (in_later x xs y c)))

sorted_by : (p : List ℕ) (ps : List (List ℕ)) → ((q : List ℕ) → Contains ps q → slice_cmp nat_cmp p q ≡ Less) → InOrder ps → InOrder (p ∷ ps)
unfolding IsStrictlySortedBy
sorted_by p ps below sorted = (each_by (λ q. slice_cmp nat_cmp p q ≡ Less) ps below, sorted)

behind : (p : List ℕ) (ps : List (List ℕ)) → InOrder (p ∷ ps) → (q : List ℕ) → Contains ps q → slice_cmp nat_cmp p q ≡ Less
behind p ps sorted q c = All-contains (λ (y : List ℕ). slice_cmp nat_cmp p y ≡ Less) ps q (All-after_first (slice_cmp nat_cmp) p ps sorted) c

not_twice : (p : List ℕ) (ps : List (List ℕ)) → InOrder (p ∷ ps) → Contains ps p → ⊥
not_twice p ps sorted c =
    let less = behind p ps sorted p c in
    let greater : Less ≡ Greater = sym less ∙ nat_list_cmp_total.antisymm p p ∙ ap ordering_reverse less in
    true≢false (ap is_lt greater)

-- the same paths in byte order
record Sorted (paths : List (List ℕ)) : Type 0 where
  pub all : List (List ℕ)
  pub in_order : InOrder all
  pub moved : IsPermutation paths all

sorted_nothing : InOrder []
unfolding IsStrictlySortedBy
sorted_nothing = tt

put_in : (p : List ℕ) (ps : List (List ℕ)) → InOrder ps → (Contains ps p → ⊥) → Sorted (p ∷ ps)
put_in p [] sorted none = record {
  all = p ∷ [];
  in_order = sorted_by p [] (λ q c. absurd (nothing c)) sorted;
  moved = IsPermutation-refl (p ∷ []);
}
put_in p (q ∷ ps) sorted none =
    by (slice_cmp nat_cmp p q) refl (put_in p ps (sorted_tail (slice_cmp nat_cmp) q ps sorted) (λ c. none (in_later q ps p c)))
  where
    by : (o : Ordering) → slice_cmp nat_cmp p q ≡ o → Sorted (p ∷ ps) → Sorted (p ∷ q ∷ ps)
    by Less e rest = record {
      all = p ∷ q ∷ ps;
      in_order = sorted_by p (q ∷ ps) (λ r c. elim (first_or_later q ps r c) [
        | inl same ↦ subst (λ (x : List ℕ). slice_cmp nat_cmp p x ≡ Less) same e
        | inr later ↦ nat_list_cmp_total.trans p q r e (behind q ps sorted r later)
      ]) sorted;
      moved = IsPermutation-refl (p ∷ q ∷ ps);
    }
    by Equal e rest = absurd (none (here_first q ps p (sym ((bytes_eq-Decides p q).0 (sym (is_eq-slice_cmp p q) ∙ ap is_eq e)))))
    by Greater e rest =
        let first : slice_cmp nat_cmp q p ≡ Less = nat_list_cmp_total.antisymm q p ∙ ap ordering_reverse e in record {
          all = q ∷ rest.all;
          in_order = sorted_by q rest.all (λ r c. elim (first_or_later p ps r (Contains-permutation rest.all (p ∷ ps) r (IsPermutation-sym (p ∷ ps) rest.all rest.moved) c)) [
            | inl same ↦ subst (λ (x : List ℕ). slice_cmp nat_cmp q x ≡ Less) same first
            | inr later ↦ behind q ps sorted r later
          ]) rest.in_order;
          moved = IsPermutation-trans (p ∷ q ∷ ps) (q ∷ p ∷ ps) (q ∷ rest.all)
              (IsPermutation-sym (q ∷ p ∷ ps) (p ∷ q ∷ ps) (IsPermutation-middle (q ∷ []) p ps)) (IsPermutation-cons q (p ∷ ps) rest.all rest.moved);
        }

-- two lists in byte order that have no path in common
join_in : (ps qs : List (List ℕ)) → InOrder ps → InOrder qs → ((p : List ℕ) → Contains ps p → Contains qs p → ⊥) → Sorted (ps ++ qs)
join_in [] qs sorted_p sorted_q apart = record { all = qs; in_order = sorted_q; moved = IsPermutation-refl qs }
join_in (p ∷ ps) qs sorted_p sorted_q apart =
    let rest = join_in ps qs (sorted_tail (slice_cmp nat_cmp) p ps sorted_p) sorted_q (λ q here there. apart q (in_later p ps q here) there) in
    let one = put_in p rest.all rest.in_order (λ c.
    elim (Contains-append_cases ps qs p (Contains-permutation rest.all (ps ++ qs) p (IsPermutation-sym (ps ++ qs) rest.all rest.moved) c)) [
      | inl here ↦ not_twice p ps sorted_p here
      | inr there ↦ apart p (here_first p ps p refl) there
    ]) in record {
      all = one.all;
      in_order = one.in_order;
      moved = IsPermutation-trans (p ∷ (ps ++ qs)) (p ∷ rest.all) one.all (IsPermutation-cons p (ps ++ qs) rest.all rest.moved) one.moved;
    }

-- ---- values

value_sum : (s : State) (now : ℕ) (need : Need) (paths : List (List ℕ)) → value_count_of s now need paths ≡ sum_by (value_count s now need) paths
value_sum s now need [] = refl
value_sum s now need (p ∷ ps) = ap (λ (n : ℕ). value_count s now need p + n) (value_sum s now need ps) ∙ sym (sum_by-cons (value_count s now need) p ps)

class_sum : (s : State) (now : ℕ) (need : Need) (found : List Looked) → ((l : Looked) → Contains found l → value_count s now need l.path ≡ buckets_of l)
    → sum_by (value_count s now need) (looked_paths found) ≡ sum_by buckets_of found
class_sum s now need [] each = refl
class_sum s now need (l ∷ found) each =
    sum_by-cons (value_count s now need) l.path (looked_paths found)
    ∙ ((λ i. each l (here_first l found l refl) i + class_sum s now need found (λ x c. each x (in_later l found x c)) i) ∙ sym (sum_by-cons buckets_of l found))

-- ---- one class more

sum_is : (a b c d e f : ℕ) → a ≡ b + c → b ≡ d → c ≡ e → f ≡ d + e → a ≡ f
sum_is a b c d e f sum one other both = omega (arith, sum, one, other, both)

module _ (start : State) (list : List Entry) (class now : ℕ) (need : Need) (before more count : LookCount)
    (below : CountsBelow class (found.whole start list class now need) now need before) (here : CountsFor class (found.part start list class now need) (IsFitted need.glob) now need.from need.until more) (sums : SumsUp before more count) where
  abbrev s : State
  s = found.whole start list class now need

  is_here : (l : Looked) → Contains here.looked l → value_count s now need l.path ≡ buckets_of l
  is_here l c =
      let tells = All-contains (TellsOf (found.part start list class now need) now need.from need.until) here.looked l here.looks.each c in
      let it = (found.class_finds start list class now need here.looked here.looks l.path).0 (path_in here.looked l c) in
      value_counted s now need l it.1.1 (tells.layout ∙ found.layout_back start list class now need l.path it.0) (tells.window ∙ found.window_alike start list class now need l.path it.0)

  apart : (p : List ℕ) → Contains below.paths p → Contains (looked_paths here.looked) p → ⊥
  apart p old new =
      let less = ((below.found p).0 old).0 in
      let same = ((found.class_finds start list class now need here.looked here.looks p).0 new).0 in
      omega (arith, less, same)

  joined : Sorted (below.paths ++ looked_paths here.looked)
  joined = join_in below.paths (looked_paths here.looked) below.in_order here.looks.found.in_order apart

  series_sum : length joined.all ≡ length below.paths + length here.looked
  series_sum =
      length_permutation (below.paths ++ looked_paths here.looked) joined.all joined.moved ∙ (length-append below.paths (looked_paths here.looked)
      ∙ ap (λ (n : ℕ). length below.paths + n) (length-map here.looked (λ (l : Looked). l.path)))

  values_sum : value_count_of s now need joined.all ≡ value_count_of s now need below.paths + sum_by buckets_of here.looked
  values_sum =
      value_sum s now need joined.all
      ∙ (sum_by-IsPermutation (value_count s now need) (below.paths ++ looked_paths here.looked) joined.all joined.moved
      ∙ (sum_by-append (value_count s now need) below.paths (looked_paths here.looked)
      ∙ (λ i. sym (value_sum s now need below.paths) i + class_sum s now need here.looked is_here i)))

  pub counts_more : CountsBelow (class + 1) s now need count
  counts_more = record {
    paths = joined.all;
    in_order = joined.in_order;
    found = λ path. (
      λ c. elim (Contains-append_cases below.paths (looked_paths here.looked) path
          (Contains-permutation joined.all (below.paths ++ looked_paths here.looked) path (IsPermutation-sym (below.paths ++ looked_paths here.looked) joined.all joined.moved) c)) [
            | inl old ↦ let it = (below.found path).0 old in (found.less_more start list class now need (class_of path) it.0, it.1)
            | inr new ↦ let it = (found.class_finds start list class now need here.looked here.looks path).0 new in (found.same_more start list class now need (class_of path) it.0, it.1)
          ],
      λ it. Contains-permutation (below.paths ++ looked_paths here.looked) joined.all path joined.moved (elim (found.below_or_same (class_of path) class it.0) [
        | inl less ↦ Contains-append_left below.paths (looked_paths here.looked) path ((below.found path).1 (less, it.1))
        | inr same ↦ Contains-append_right below.paths (looked_paths here.looked) path ((found.class_finds start list class now need here.looked here.looks path).1 (same, it.1))
      ]),
    );
    series = sum_is count.series before.series more.series (length below.paths) (length here.looked) (length joined.all) sums.series below.series here.series series_sum;
    values = sum_is count.values before.values more.values (value_count_of s now need below.paths) (sum_by buckets_of here.looked) (value_count_of s now need joined.all)
        sums.values below.values here.values values_sum;
  }

not_below : (n : ℕ) → n < 0 → ⊥
not_below n less = omega (arith, less)

pub counts_none : (s : State) (now : ℕ) (need : Need) (count : LookCount) → count.series ≡ 0 → count.values ≡ 0 → CountsBelow 0 s now need count
counts_none s now need count series values = record {
  paths = [];
  in_order = sorted_nothing;
  found = λ path. (λ c. absurd (nothing c), λ it. absurd (not_below (class_of path) it.0));
  series = series;
  values = values;
}

pub counts_need : (s : State) (now : ℕ) (need : Need) (count : LookCount) → CountsBelow 16 s now need count → CountsNeed s now need count
counts_need s now need count below = record {
  paths = below.paths;
  finds = record {
    in_order = below.in_order;
    found = λ path. (λ c. ((below.found path).0 c).1, λ it. (below.found path).1 (mod-lt (fnv1a path) (omega arith), it));
  };
  series = below.series;
  values = below.values;
}

-- ---- one need more

module _ (s : State) (now : ℕ) (need : Need) (paths : List (List ℕ)) where
  series_more : (found : List (List (List ℕ))) → series_count (found ++ paths ∷ []) ≡ series_count found + length paths
  series_more [] = omega arith
  series_more (ps ∷ found) = omega (arith, series_more found)

  values_more : (needs : List Need) (found : List (List (List ℕ))) → FindsAll s now needs found
      → value_count_all s now (needs ++ need ∷ []) (found ++ paths ∷ []) ≡ value_count_all s now needs found + value_count_of s now need paths
  values_more [] [] finds = omega arith
  values_more [] (ps ∷ found) finds = absurd (cc finds)
  values_more (n ∷ needs) [] finds = absurd finds
  values_more (n ∷ needs) (ps ∷ found) finds = omega (arith, values_more needs found finds.1)

  finds_more : FindsAll s now (need ∷ []) (paths ∷ []) → (needs : List Need) (found : List (List (List ℕ))) → FindsAll s now needs found
      → FindsAll s now (needs ++ need ∷ []) (found ++ paths ∷ [])
  finds_more one [] [] finds = one
  finds_more one [] (ps ∷ found) finds = absurd (cc finds)
  finds_more one (n ∷ needs) [] finds = absurd finds
  finds_more one (n ∷ needs) (ps ∷ found) finds = (finds.0, finds_more one needs found finds.1)

pub needs_none : (s : State) (now : ℕ) (count : LookCount) → count.series ≡ 0 → count.values ≡ 0 → CountsNeeds s now [] count
needs_none s now count series values = record { found = []; finds = refl; series = series; values = values }

pub needs_more : (s : State) (now : ℕ) (needs : List Need) (need : Need) (before more count : LookCount) → CountsNeeds s now needs before → CountsNeed s now need more
    → SumsUp before more count → CountsNeeds s now (needs ++ need ∷ []) count
needs_more s now needs need before more count all one sums = record {
  found = all.found ++ one.paths ∷ [];
  finds = finds_more s now need one.paths (one.finds, refl) needs all.found all.finds;
  series = sum_is count.series before.series more.series (series_count all.found) (length one.paths) (series_count (all.found ++ one.paths ∷ []))
      sums.series all.series one.series (series_more s now need one.paths all.found);
  values = sum_is count.values before.values more.values (value_count_all s now needs all.found) (value_count_of s now need one.paths)
      (value_count_all s now (needs ++ need ∷ []) (all.found ++ one.paths ∷ []))
      sums.values all.values one.values (values_more s now need one.paths needs all.found all.finds);
}
