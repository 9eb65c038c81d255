-- Sorted by their numbers, the places are in order of arrival.
use Rattle.std.proofs.Common.{◌≡◌, ◌≢◌, false, ◌∙◌, ◌<◌, ◌≤◌, ◌+◌, ◌++◌, ◌==◌, ℕ, List, [], ◌∷◌, Some, get_or, length, map, option_map, slice_get, suc, refl, sym, ap, subst, arith}
use Rattle.std.specs.List.{All, AllByRecursion, IsDistinct}
use Rattle.std.specs.List.Sorted.{IsNonDecreasingBy, IsPermutation}
use Rattle.std.specs.Map.{keys_of}
use Rattle.std.specs.declared.cmp.Ordering.{Ordering}
use Rattle.std.specs.declared.cmp.Ordering.TheVariants.{Equal, Greater, Less}
use Rattle.std.specs.Ordering.{is_lt, ordering_then}
use Rattle.std.proofs.lemmas.List.{get_or-map, length-map, map-append, take_all, take_more}
use Rattle.std.proofs.lemmas.List.Elements.{All-head, All-push, All-tail}
use Rattle.std.proofs.lemmas.List.Sorted.{All-permutation, IsPermutation-map}
use Rattle.std.proofs.lemmas.Map.Keys.{IsDistinct-head, IsDistinct-tail}
use Rattle.std.proofs.lemmas.Option.{slice_get-get_or, slice_get-map}
use Rattle.point_cache.specs.Kept.{AreArrivals, Entry, IsKept, entry_at, metrics_of, numbers_of}
use Rattle.point_cache.specs.Pending.{paths_of}
use Rattle.point_cache.specs.declared.arrivals.Arrival.{Arrival}
use Rattle.point_cache.proofs.KeptLemmas.{arrived, number, numbers_moved, other_numbers, paths_arrived}
use Rattle.point_cache.proofs.RiseLemmas.{Above, Rises}

-- the loop over the places
pub none_arrived : (es : List Entry) → AreArrivals es 0 []
none_arrived es = record { there = refl; numbered = λ k d lt. absurd (omega arith) }

pub one_arrived : (es : List Entry) (items : List Arrival) (a : Arrival) → a.place < length es → a.number ≡ (entry_at es a.place).1.number → AreArrivals es a.place items
    → AreArrivals es (a.place + 1) (items ++ a ∷ [])
one_arrived es items a lt same are = record {
  there = map-append (λ (a : Arrival). entry_at es a.place) items (a ∷ []) ∙ ap (λ l. l ++ entry_at es a.place ∷ []) are.there ∙ sym (take_more es a.place _ lt);
  numbered = All-push (λ (a : Arrival). (a.place < length es) × ((entry_at es a.place).1.number ≡ a.number)) items a are.numbered (lt, sym same);
}

-- entries whose numbers do not fall, and differ, rise
above_first : (k : ℕ) (fs : List Entry) → ((i : ℕ) (d : Entry) → i < length fs → k ≤ number (get_or fs i d)) → AllByRecursion (λ x. number x ≢ k) fs → Above number k fs
above_first k [] le other = tt
above_first k (f ∷ fs) le other = (omega (arith, le 0 f (omega arith), other.0), above_first k fs (λ i d lt. le (suc i) d (omega (arith, lt))) other.1)

rises_by : (fs : List Entry) → IsNonDecreasingBy number fs → IsDistinct ◌==◌ (numbers_of fs) → Rises number fs
rises_by [] up apart = tt
rises_by (f ∷ fs) up apart = (
  above_first (number f) fs (λ i d lt. up 0 (suc i) d (omega arith) (omega (arith, lt))) (other_numbers (number f) fs (IsDistinct-head ◌==◌ (number f) (numbers_of fs) apart)),
  rises_by fs (λ i j d le lt. up (suc i) (suc j) d (omega (arith, le)) (omega (arith, lt))) (IsDistinct-tail ◌==◌ (number f) (numbers_of fs) apart),
)

module _ (es : List Entry) where
  abbrev at : Arrival → Entry
  at a = entry_at es a.place

  abbrev Its : Arrival → Type 0
  Its a = (a.place < length es) × (number (at a) ≡ a.number)

  numbers_rise : (xs : List Arrival) → All Its xs → IsNonDecreasingBy (λ a. a.number) xs → IsNonDecreasingBy number (map at xs)
  numbers_rise xs its up i j d le lt =
      let e : Arrival = record { number = 0; place = 0 } in
      let within : j < length xs = omega (arith, lt, length-map xs at) in
      let first : number (get_or (map at xs) i d) ≡ (get_or xs i e).number = ap number (get_or-map at xs i e d (omega (arith, le, within))) ∙ (its i e (omega (arith, le, within))).1 in
      let last : number (get_or (map at xs) j d) ≡ (get_or xs j e).number = ap number (get_or-map at xs j e d within) ∙ (its j e within).1 in
      omega (arith, first, last, up i j e le within)

  paths_at : (xs : List Arrival) → All Its xs → map (slice_get (keys_of es)) (map (λ (a : Arrival). a.place) xs) ≡ map Some (keys_of (map at xs))
  paths_at [] its = refl
  paths_at (a ∷ xs) its =
      let here : slice_get (keys_of es) a.place ≡ Some (at a).0 =
      slice_get-map (λ (e : Entry). e.0) es a.place ∙ ap (option_map (λ (e : Entry). e.0)) (slice_get-get_or es a.place _ (All-head Its a xs its).0) in
      λ j. here j ∷ paths_at xs (All-tail Its a xs its) j

  pub sorted_arrivals : (next : ℕ) (items sorted : List Arrival) → IsKept next es → AreArrivals es (length es) items → IsPermutation items sorted
      → IsNonDecreasingBy (λ a. a.number) sorted → map (slice_get (keys_of es)) (map (λ (a : Arrival). a.place) sorted) ≡ map Some (paths_of (metrics_of es))
  sorted_arrivals next items sorted kept are moved up =
      let its : All Its sorted = All-permutation Its items sorted moved are.numbered in
      let whole : map at items ≡ es = are.there ∙ take_all (length es) es (omega arith) in
      let same : IsPermutation es (map at sorted) = subst (λ (l : List Entry). IsPermutation l (map at sorted)) whole (IsPermutation-map at items sorted moved) in
      let order = arrived es (map at sorted) same kept.apart (rises_by (map at sorted) (numbers_rise sorted its up) (numbers_moved es (map at sorted) same kept.apart)) in
      paths_at sorted its ∙ ap (λ (l : List Entry). map Some (keys_of l)) order ∙ ap (map Some) (sym (paths_arrived es))

pub not_lt_first : (r s : Ordering) → is_lt (ordering_then r s) ≡ false → is_lt r ≡ false
not_lt_first Less s h = h
not_lt_first Equal s h = refl
not_lt_first Greater s h = refl
