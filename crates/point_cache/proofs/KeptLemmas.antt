-- The metrics that kept entries stand for.
use Rattle.std.proofs.Common.{◌≡◌, ◌≢◌, ◌∙◌, ◌<◌, ◌==◌, ◌++◌, ◌||◌, ℕ, ℤ, Bool, true, false, cond, if◌then◌else◌, List, [], ◌∷◌, ◌+◌, Option, None, Some, length, map, nat_lt, option_map, position, slice_get, suc, swap_remove, unwrap_or, zero, refl, sym, ap, subst, arith, true≢false, is_some}
use Rattle.std.specs.List.{All, AllByRecursion, IsDistinct, list_any}
use Rattle.std.specs.List.Sorted.{IsPermutation}
use Rattle.std.specs.Map.{keys_of, lookup, remove_entry, values_of}
use Rattle.std.specs.Str.{bytes_eq}
use Rattle.std.proofs.lemmas.Bool.{eq-eqb, le-ltb, ltb-true, ltb-false}
use Rattle.std.proofs.lemmas.Cmp.{nat_eq_equiv, nat_list_eq_equiv}
use Rattle.std.proofs.lemmas.List.{length-map, map-append}
use Rattle.std.proofs.lemmas.List.Elements.{All-from_recursion, All-head, All-push, All-tail, All-weaker, recursion_from_All}
use Rattle.std.proofs.lemmas.List.Sorted.{All-permutation, IsPermutation-cons, IsPermutation-map, IsPermutation-middle, IsPermutation-refl, IsPermutation-swap_remove, IsPermutation-sym, IsPermutation-trans, length_permutation, list_any-IsPermutation}
use Rattle.std.proofs.lemmas.Map.Keys.{IsDistinct-head, IsDistinct-push, IsDistinct-tail}
use Rattle.std.proofs.lemmas.Map.Entries.{lookup_from_place}
use Rattle.std.proofs.lemmas.Option.{get_or_from_slice_get, same_Some, slice_get-map, slice_get_within}
use Rattle.std.proofs.lemmas.Map.Made.{is_some-lookup, keys_of-map_values, lookup-map_values}
use Rattle.std.proofs.lemmas.Slice.Eq.{bytes_eq-Decides}
use Rattle.indexmap.specs.IndexMap.{insert_entry, set_value_at}
use Rattle.indexmap.specs.IndexSet.{insert_key}
use Rattle.indexmap.proofs.MapLemmas.{Found-position, Missing-position, absent_from_lookup, distinct_permutation, insert_entry-absent, insert_entry-first, lookup_permutation, some_index}
use Rattle.indexmap.proofs.SetLemmas.{keys_insert_entry, map-swap_remove}
use Rattle.point_cache.specs.Kept.{Entry, IsKept, in_arrival, insert_arrived, metrics_of, numbers_of, placed_of}
use Rattle.point_cache.specs.Pending.{Metrics, paths_of}
use Rattle.point_cache.specs.declared.numbered.Numbered.{Numbered}
use Rattle.point_cache.proofs.PointsLemmas.{eqb-other}
use Rattle.point_cache.proofs.RiseLemmas.{Above, Rises, above_lower, rising_once}

abbrev pub number : Entry → ℕ
number e = e.1.number

abbrev shown : List Entry → Metrics
shown es = map (λ e. (e.0, e.1.points)) es

-- the entries in order of arrival are all of them
inserted_all : (e : Entry) (xs : List Entry) → IsPermutation (e ∷ xs) (insert_arrived e xs)
inserted_all e [] = IsPermutation-refl (e ∷ [])
inserted_all e (x ∷ xs) = by (nat_lt (number x) (number e)) (inserted_all e xs)
  where
    by : (b : Bool) → IsPermutation (e ∷ xs) (insert_arrived e xs) → IsPermutation (e ∷ x ∷ xs) (if b then x ∷ insert_arrived e xs else e ∷ x ∷ xs)
    by true more = IsPermutation-trans _ _ _ (IsPermutation-middle (e ∷ []) x xs) (IsPermutation-cons x _ _ more)
    by false more = IsPermutation-refl _

pub arrival_all : (es : List Entry) → IsPermutation es (in_arrival es)
arrival_all [] = IsPermutation-refl []
arrival_all (e ∷ es) = IsPermutation-trans _ _ _ (IsPermutation-cons e _ _ (arrival_all es)) (inserted_all e (in_arrival es))

-- and rise by their numbers, where these differ
above_inserted : (k : ℕ) (e : Entry) (xs : List Entry) → k < number e → Above number k xs → Above number k (insert_arrived e xs)
above_inserted k e [] lt above = (lt, tt)
above_inserted k e (x ∷ xs) lt above = by (nat_lt (number x) (number e)) (above_inserted k e xs lt above.1)
  where
    by : (b : Bool) → Above number k (insert_arrived e xs) → Above number k (if b then x ∷ insert_arrived e xs else e ∷ x ∷ xs)
    by true more = (above.0, more)
    by false more = (lt, above)

inserted_rises : (e : Entry) (xs : List Entry) → Rises number xs → AllByRecursion (λ x. number x ≢ number e) xs → Rises number (insert_arrived e xs)
inserted_rises e [] up other = (tt, tt)
inserted_rises e (x ∷ xs) up other = by (nat_lt (number x) (number e)) refl (inserted_rises e xs up.1 other.1)
  where
    by : (b : Bool) → nat_lt (number x) (number e) ≡ b → Rises number (insert_arrived e xs)
        → Rises number (if b then x ∷ insert_arrived e xs else e ∷ x ∷ xs)
    by true h more = (above_inserted (number x) e xs (ltb-true _ _ h) up.0, more)
    by false h more =
        let below : number e < number x = omega (arith, ltb-false _ _ h, other.0) in
        ((below, above_lower number (number e) (number x) xs (omega (arith, below)) up.0), up)

pub other_numbers : (k : ℕ) (es : List Entry) → AllByRecursion (λ m. (k == m) ≡ false) (numbers_of es) → AllByRecursion (λ x. number x ≢ k) es
other_numbers k [] all = tt
other_numbers k (e ∷ es) all = ((λ same. true≢false (sym (eq-eqb k (number e) (sym same)) ∙ all.0)), other_numbers k es all.1)

pub arrival_rises : (es : List Entry) → IsDistinct ◌==◌ (numbers_of es) → Rises number (in_arrival es)
arrival_rises [] apart = tt
arrival_rises (e ∷ es) apart =
    let others : AllByRecursion (λ x. number x ≢ number e) es = other_numbers (number e) es (IsDistinct-head ◌==◌ (number e) (numbers_of es) apart) in
    inserted_rises e (in_arrival es) (arrival_rises es (IsDistinct-tail ◌==◌ (number e) (numbers_of es) apart))
    (recursion_from_All (λ x. number x ≢ number e) (in_arrival es) (All-permutation (λ x. number x ≢ number e) es (in_arrival es) (arrival_all es) (All-from_recursion (λ x. number x ≢ number e) es others)))

pub numbers_moved : (es fs : List Entry) → IsPermutation es fs → IsDistinct ◌==◌ (numbers_of es) → IsDistinct ◌==◌ (numbers_of fs)
numbers_moved es fs moved apart = distinct_permutation nat_eq_equiv (numbers_of es) (numbers_of fs) (IsPermutation-map number es fs moved) apart

-- any order of the entries that rises is the order of arrival
pub arrived : (es fs : List Entry) → IsPermutation es fs → IsDistinct ◌==◌ (numbers_of es) → Rises number fs → fs ≡ in_arrival es
arrived es fs moved apart up = rising_once number fs (in_arrival es) up (arrival_rises es apart) (IsPermutation-trans _ _ _ (IsPermutation-sym es fs moved) (arrival_all es))

-- the places do not matter
arrival_moved : (es fs : List Entry) → IsPermutation es fs → IsDistinct ◌==◌ (numbers_of es) → in_arrival fs ≡ in_arrival es
arrival_moved es fs moved apart = arrived es (in_arrival fs) (IsPermutation-trans _ _ _ moved (arrival_all fs)) apart (arrival_rises fs (numbers_moved es fs moved apart))

keys_moved : (es fs : List Entry) → IsPermutation es fs → IsDistinct bytes_eq (keys_of es) → IsDistinct bytes_eq (keys_of fs)
keys_moved es fs moved once = distinct_permutation nat_list_eq_equiv (keys_of es) (keys_of fs) (IsPermutation-map (λ (e : Entry). e.0) es fs moved) once

-- the paths, in the two orders
pub paths_arrived : (es : List Entry) → paths_of (metrics_of es) ≡ keys_of (in_arrival es)
unfolding metrics_of
paths_arrived es = keys_of-map_values (λ (m : Numbered). m.points) (in_arrival es)

pub paths_placed : (es : List Entry) → IsPermutation (paths_of (metrics_of es)) (keys_of es)
paths_placed es = rw (paths_arrived es) (IsPermutation-sym _ _ (IsPermutation-map (λ (e : Entry). e.0) es (in_arrival es) (arrival_all es)))

pub paths_once : (es : List Entry) → IsDistinct bytes_eq (keys_of es) → IsDistinct bytes_eq (paths_of (metrics_of es))
paths_once es once = rw (paths_arrived es) (keys_moved es (in_arrival es) (arrival_all es) once)

pub metrics_count : (es : List Entry) → length (metrics_of es) ≡ length es
unfolding metrics_of
metrics_count es = length-map (in_arrival es) (λ (e : Entry). (e.0, e.1.points)) ∙ length_permutation es (in_arrival es) (arrival_all es)

-- the points of a path
pub lookup_shown : (es : List Entry) (path : List ℕ) → IsDistinct bytes_eq (keys_of es)
    → lookup (bytes_eq path) (metrics_of es) ≡ option_map (λ (m : Numbered). m.points) (lookup (bytes_eq path) es)
unfolding metrics_of
lookup_shown es path once =
    lookup-map_values (λ (m : Numbered). m.points) (bytes_eq path) (in_arrival es)
    ∙ ap (option_map (λ (m : Numbered). m.points))
    (lookup_permutation nat_list_eq_equiv es (in_arrival es) (arrival_all es) (keys_moved es (in_arrival es) (arrival_all es) once) (bytes_eq path) (nat_list_eq_equiv.congr path))

-- an entry that arrives last
inserted_before : (x e : Entry) (xs : List Entry) → number x < number e → insert_arrived x (xs ++ e ∷ []) ≡ insert_arrived x xs ++ e ∷ []
inserted_before x e [] lt = rw (le-ltb (number e) (number x) (omega (arith, lt))) refl
inserted_before x e (y ∷ ys) lt = by (nat_lt (number y) (number x)) (inserted_before x e ys lt)
  where
    by : (b : Bool) → insert_arrived x (ys ++ e ∷ []) ≡ insert_arrived x ys ++ e ∷ []
        → (if b then y ∷ insert_arrived x (ys ++ e ∷ []) else x ∷ y ∷ (ys ++ e ∷ [])) ≡ (if b then y ∷ insert_arrived x ys else x ∷ y ∷ ys) ++ e ∷ []
    by true more = ap (λ l. y ∷ l) more
    by false more = refl

arrives_last : (es : List Entry) (e : Entry) → All (λ k. k < number e) (numbers_of es) → in_arrival (es ++ e ∷ []) ≡ in_arrival es ++ e ∷ []
arrives_last [] e below = refl
arrives_last (x ∷ xs) e below =
    ap (insert_arrived x) (arrives_last xs e (All-tail (λ k. k < number e) (number x) (numbers_of xs) below))
    ∙ inserted_before x e (in_arrival xs) (All-head (λ k. k < number e) (number x) (numbers_of xs) below)

pub metrics_last : (es : List Entry) (e : Entry) → All (λ k. k < number e) (numbers_of es) → metrics_of (es ++ e ∷ []) ≡ metrics_of es ++ (e.0, e.1.points) ∷ []
unfolding metrics_of
metrics_last es e below = ap shown (arrives_last es e below) ∙ map-append (λ (e : Entry). (e.0, e.1.points)) (in_arrival es) (e ∷ [])

-- a change of entries that leaves their numbers leaves their order
module _ (f : Entry → Entry) (same : (e : Entry) → number (f e) ≡ number e) where
  inserted_changed : (e : Entry) (xs : List Entry) → insert_arrived (f e) (map f xs) ≡ map f (insert_arrived e xs)
  inserted_changed e [] = refl
  inserted_changed e (x ∷ xs) = by (nat_lt (number (f x)) (number (f e))) (nat_lt (number x) (number e)) (λ j. nat_lt (same x j) (same e j)) (inserted_changed e xs)
    where
      by : (b c : Bool) → b ≡ c → insert_arrived (f e) (map f xs) ≡ map f (insert_arrived e xs)
          → (if b then f x ∷ insert_arrived (f e) (map f xs) else f e ∷ f x ∷ map f xs) ≡ map f (if c then x ∷ insert_arrived e xs else e ∷ x ∷ xs)
      by true true agree more = ap (λ l. f x ∷ l) more
      by false false agree more = refl
      by true false agree more = absurd (true≢false agree)
      by false true agree more = absurd (true≢false (sym agree))

  arrival_changed : (es : List Entry) → in_arrival (map f es) ≡ map f (in_arrival es)
  arrival_changed [] = refl
  arrival_changed (e ∷ es) = ap (insert_arrived (f e)) (arrival_changed es) ∙ inserted_changed e (in_arrival es)

-- a path gets other points
abbrev renewed : List ℕ → List (ℕ × ℤ) → Entry → Entry
renewed path points e = if bytes_eq path e.0 then (e.0, record { number = e.1.number; points = points }) else e

renewed_number : (path : List ℕ) (points : List (ℕ × ℤ)) (e : Entry) → number (renewed path points e) ≡ number e
renewed_number path points e = by (bytes_eq path e.0)
  where
    by : (b : Bool) → number (if b then (e.0, record { number = e.1.number; points = points }) else e) ≡ number e
    by true = refl
    by false = refl

none_renewed : (path : List ℕ) (points : List (ℕ × ℤ)) (es : List Entry) → AllByRecursion (λ key. bytes_eq path key ≡ false) (keys_of es) → map (renewed path points) es ≡ es
none_renewed path points [] none = refl
none_renewed path points (e ∷ es) none = rw none.0 (ap (λ l. e ∷ l) (none_renewed path points es none.1))

others_apart : (path : List ℕ) (e : Entry) (es : List Entry) → IsDistinct bytes_eq (keys_of (e ∷ es)) → bytes_eq path e.0 ≡ true
    → AllByRecursion (λ key. bytes_eq path key ≡ false) (keys_of es)
others_apart path e es once same =
    subst (λ (p : List ℕ). AllByRecursion (λ key. bytes_eq p key ≡ false) (keys_of es)) (sym ((bytes_eq-Decides path e.0).0 same)) (IsDistinct-head bytes_eq e.0 (keys_of es) once)

renews : (path : List ℕ) (old new : Numbered) (es : List Entry) → IsDistinct bytes_eq (keys_of es) → lookup (bytes_eq path) es ≡ Some old → new.number ≡ old.number
    → insert_entry bytes_eq es path new ≡ map (renewed path new.points) es
renews path old new [] once here same = absurd (true≢false (sym (ap is_some here)))
renews path old new (e ∷ es) once here same = by (bytes_eq path e.0) refl here (renews path old new es (IsDistinct-tail bytes_eq e.0 (keys_of es) once))
  where
    by : (b : Bool) → bytes_eq path e.0 ≡ b → cond b (Some e.1) (lookup (bytes_eq path) es) ≡ Some old
        → (lookup (bytes_eq path) es ≡ Some old → new.number ≡ old.number → insert_entry bytes_eq es path new ≡ map (renewed path new.points) es)
        → (if b then (e.0, new) ∷ es else e ∷ insert_entry bytes_eq es path new)
        ≡ (if b then (e.0, record { number = e.1.number; points = new.points }) else e) ∷ map (renewed path new.points) es
    by true p here more =
        let its : e.1 ≡ old = ap (λ (o : Option Numbered). unwrap_or o e.1) here in
        let counted : new.number ≡ e.1.number = same ∙ sym (ap (λ (m : Numbered). m.number) its) in
        let rest : map (renewed path new.points) es ≡ es = none_renewed path new.points es (others_apart path e es once p) in
        λ j. (e.0, record { number = counted j; points = new.points }) ∷ sym rest j
    by false p here more = ap (λ l. e ∷ l) (more here same)

shown_renewed : (path : List ℕ) (points : List (ℕ × ℤ)) (es : List Entry) → IsDistinct bytes_eq (keys_of es) → list_any (bytes_eq path) (keys_of es) ≡ true
    → shown (map (renewed path points) es) ≡ insert_entry bytes_eq (shown es) path points
shown_renewed path points [] once any = absurd (true≢false (sym any))
shown_renewed path points (e ∷ es) once any = by (bytes_eq path e.0) refl any (shown_renewed path points es (IsDistinct-tail bytes_eq e.0 (keys_of es) once))
  where
    by : (b : Bool) → bytes_eq path e.0 ≡ b → (b || list_any (bytes_eq path) (keys_of es)) ≡ true
        → (list_any (bytes_eq path) (keys_of es) ≡ true → shown (map (renewed path points) es) ≡ insert_entry bytes_eq (shown es) path points)
        → shown ((if b then (e.0, record { number = e.1.number; points = points }) else e) ∷ map (renewed path points) es)
        ≡ (if b then (e.0, points) ∷ shown es else (e.0, e.1.points) ∷ insert_entry bytes_eq (shown es) path points)
    by true p any more = ap (λ l. (e.0, points) ∷ shown l) (none_renewed path points es (others_apart path e es once p))
    by false p any more = ap (λ l. (e.0, e.1.points) ∷ l) (more any)

any_from_lookup : (path : List ℕ) (m : Numbered) (es : List Entry) → lookup (bytes_eq path) es ≡ Some m → list_any (bytes_eq path) (keys_of es) ≡ true
any_from_lookup path m [] here = absurd (true≢false (sym (ap is_some here)))
any_from_lookup path m (e ∷ es) here = by (bytes_eq path e.0) here (any_from_lookup path m es)
  where
    by : (b : Bool) → cond b (Some e.1) (lookup (bytes_eq path) es) ≡ Some m → (lookup (bytes_eq path) es ≡ Some m → list_any (bytes_eq path) (keys_of es) ≡ true)
        → (b || list_any (bytes_eq path) (keys_of es)) ≡ true
    by true here more = refl
    by false here more = more here

pub metrics_renewed : (path : List ℕ) (old new : Numbered) (es : List Entry) → IsDistinct bytes_eq (keys_of es) → lookup (bytes_eq path) es ≡ Some old → new.number ≡ old.number
    → metrics_of (insert_entry bytes_eq es path new) ≡ insert_entry bytes_eq (metrics_of es) path new.points
unfolding metrics_of
metrics_renewed path old new es once here same =
    let order : in_arrival (insert_entry bytes_eq es path new) ≡ map (renewed path new.points) (in_arrival es) =
    ap in_arrival (renews path old new es once here same) ∙ arrival_changed (renewed path new.points) (renewed_number path new.points) es in
    let any : list_any (bytes_eq path) (keys_of (in_arrival es)) ≡ true =
    sym (list_any-IsPermutation (bytes_eq path) (keys_of es) (keys_of (in_arrival es)) (IsPermutation-map (λ (e : Entry). e.0) es (in_arrival es) (arrival_all es))) ∙ any_from_lookup path old es here in
    ap shown order ∙ shown_renewed path new.points (in_arrival es) (keys_moved es (in_arrival es) (arrival_all es) once) any

-- an entry is taken
removed_inserted : (t : List ℕ → Bool) (e : Entry) (xs : List Entry) → t e.0 ≡ true → AllByRecursion (λ key. t key ≡ false) (keys_of xs)
    → remove_entry t (shown (insert_arrived e xs)) ≡ shown xs
removed_inserted t e [] here none = rw here refl
removed_inserted t e (x ∷ xs) here none = by (nat_lt (number x) (number e)) (removed_inserted t e xs here none.1)
  where
    by : (b : Bool) → remove_entry t (shown (insert_arrived e xs)) ≡ shown xs
        → remove_entry t (shown (if b then x ∷ insert_arrived e xs else e ∷ x ∷ xs)) ≡ shown (x ∷ xs)
    by true more = rw none.0 (ap (λ l. (x.0, x.1.points) ∷ l) more)
    by false more = rw here refl

pub metrics_taken : (es rest : List Entry) (e : Entry) → IsPermutation es (e ∷ rest) → IsDistinct bytes_eq (keys_of es) → IsDistinct ◌==◌ (numbers_of es)
    → metrics_of rest ≡ remove_entry (bytes_eq e.0) (metrics_of es)
unfolding metrics_of
metrics_taken es rest e moved once apart =
    let others : AllByRecursion (λ key. bytes_eq e.0 key ≡ false) (keys_of rest) = IsDistinct-head bytes_eq e.0 (keys_of rest) (keys_moved es (e ∷ rest) moved once) in
    let none : AllByRecursion (λ key. bytes_eq e.0 key ≡ false) (keys_of (in_arrival rest)) =
    recursion_from_All (λ key. bytes_eq e.0 key ≡ false) (keys_of (in_arrival rest)) (All-permutation (λ key. bytes_eq e.0 key ≡ false) (keys_of rest) (keys_of (in_arrival rest))
    (IsPermutation-map (λ (e : Entry). e.0) rest (in_arrival rest) (arrival_all rest)) (All-from_recursion (λ key. bytes_eq e.0 key ≡ false) (keys_of rest) others)) in
    sym (removed_inserted (bytes_eq e.0) e (in_arrival rest) ((bytes_eq-Decides e.0 e.0).1 refl) none) ∙ ap (λ l. remove_entry (bytes_eq e.0) (shown l)) (arrival_moved es (e ∷ rest) moved apart)

-- no entries
pub none_kept : (next : ℕ) → IsKept next []
unfolding IsDistinct
none_kept next = record { once = tt; below = λ k d lt. absurd (omega arith); apart = tt }

-- a path gets another value with the same number
same_places : (es : List Entry) (place : ℕ) (new : Numbered) → keys_of (set_value_at es place new) ≡ keys_of es
same_places [] place new = refl
same_places (e ∷ es) zero new = refl
same_places (e ∷ es) (suc place) new = ap (λ l. e.0 ∷ l) (same_places es place new)

same_numbers : (es : List Entry) (place : ℕ) (old new : Numbered) → slice_get (values_of es) place ≡ Some old → new.number ≡ old.number
    → numbers_of (set_value_at es place new) ≡ numbers_of es
same_numbers [] place old new here same = refl
same_numbers (e ∷ es) zero old new here same =
    let its : e.1 ≡ old = same_Some e.1 old here in
    ap (λ k. k ∷ numbers_of es) (same ∙ sym (ap (λ (m : Numbered). m.number) its))
same_numbers (e ∷ es) (suc place) old new here same = ap (λ l. number e ∷ l) (same_numbers es place old new here same)

pub record Renewed (next : ℕ) (es : List Entry) (path : List ℕ) (place : ℕ) (old new : Numbered) : Type 0 where
  pub kept : IsKept next (set_value_at es place new)
  pub placed : placed_of (set_value_at es place new) ≡ record { metrics = insert_entry bytes_eq (metrics_of es) path new.points; places = keys_of es }
  pub there : lookup (bytes_eq path) (metrics_of es) ≡ Some old.points
  pub known : insert_key bytes_eq (keys_of es) path ≡ keys_of es

pub renewed_at : (next : ℕ) (es : List Entry) (path : List ℕ) (place : ℕ) (old new : Numbered) → IsKept next es → position (bytes_eq path) (keys_of es) ≡ Some place
    → slice_get (values_of es) place ≡ Some old → new.number ≡ old.number → Renewed next es path place old new
renewed_at next es path place old new kept at here same =
    let found = Found-position (bytes_eq path) es place at in
    let its : lookup (bytes_eq path) es ≡ Some old = found.value ∙ here in
    let metrics = ap metrics_of (sym (insert_entry-first bytes_eq path new es place found.first)) ∙ metrics_renewed path old new es kept.once its same in
    let places = same_places es place new in
    let numbers = same_numbers es place old new here same in
    record {
      kept = record {
        once = subst (λ (ks : List (List ℕ)). IsDistinct bytes_eq ks) (sym places) kept.once;
        below = subst (λ (ks : List ℕ). All (λ k. k < next) ks) (sym numbers) kept.below;
        apart = subst (λ (ks : List ℕ). IsDistinct ◌==◌ ks) (sym numbers) kept.apart;
      };
      placed = λ j. record { metrics = metrics j; places = places j };
      there = lookup_shown es path kept.once ∙ ap (option_map (λ (m : Numbered). m.points)) its;
      known = ap (λ (b : Bool). if b then keys_of es else keys_of es ++ path ∷ []) (any_from_lookup path old es its);
    }

-- a new path gets the last place and the next number
pub absent : (next : ℕ) (es : List Entry) (path : List ℕ) → IsKept next es → position (bytes_eq path) (keys_of es) ≡ None → lookup (bytes_eq path) (metrics_of es) ≡ None
absent next es path kept none = lookup_shown es path kept.once ∙ ap (option_map (λ (m : Numbered). m.points)) (Missing-position (bytes_eq path) es none).value

none_next : (next : ℕ) (ks : List ℕ) → All (λ k. k < next) ks → list_any (λ k. next == k) ks ≡ false
none_next next [] below = refl
none_next next (k ∷ ks) below =
    let other : (next == k) ≡ false = eqb-other next k (omega (arith, All-head (λ k. k < next) k ks below)) in
    rw other (none_next next ks (All-tail (λ k. k < next) k ks below))

pub record New (es : List Entry) (path : List ℕ) (new : Numbered) : Type 0 where
  pub kept : IsKept (new.number + 1) (insert_entry bytes_eq es path new)
  pub placed : placed_of (insert_entry bytes_eq es path new) ≡ record { metrics = insert_entry bytes_eq (metrics_of es) path new.points; places = insert_key bytes_eq (keys_of es) path }

pub new_last : (es : List Entry) (path : List ℕ) (new : Numbered) → IsKept new.number es → position (bytes_eq path) (keys_of es) ≡ None
    → IsDistinct bytes_eq (keys_of (insert_entry bytes_eq es path new)) → New es path new
new_last es path new kept none once =
    let last : insert_entry bytes_eq es path new ≡ es ++ (path, new) ∷ [] = insert_entry-absent bytes_eq path new es (Missing-position (bytes_eq path) es none).absent in
    let gone = absent new.number es path kept none in
    let metrics = ap metrics_of last ∙ metrics_last es (path, new) kept.below ∙ sym (insert_entry-absent bytes_eq path new.points (metrics_of es) (absent_from_lookup (bytes_eq path) (metrics_of es) gone)) in
    let places = keys_insert_entry bytes_eq es path new in
    let numbers : numbers_of (insert_entry bytes_eq es path new) ≡ numbers_of es ++ new.number ∷ [] = ap numbers_of last ∙ map-append number es ((path, new) ∷ []) in
    record {
      kept = record {
        once = once;
        below = subst (λ (ks : List ℕ). All (λ k. k < new.number + 1) ks) (sym numbers)
            (All-push (λ k. k < new.number + 1) (numbers_of es) new.number (All-weaker (λ k. k < new.number) (λ k. k < new.number + 1) (λ k lt. omega (arith, lt)) (numbers_of es) kept.below) (omega arith));
        apart = subst (λ (ks : List ℕ). IsDistinct ◌==◌ ks) (sym numbers) (IsDistinct-push nat_eq_equiv (numbers_of es) new.number kept.apart (none_next new.number (numbers_of es) kept.below));
      };
      placed = λ j. record { metrics = metrics j; places = places j };
    }

-- a taken entry leaves its place to the last
pub record Left (next : ℕ) (es : List Entry) (place : ℕ) (path : List ℕ) (its : Numbered) : Type 0 where
  pub kept : IsKept next (swap_remove es place (path, its))
  pub here : slice_get (keys_of es) place ≡ Some path
  pub points : lookup (bytes_eq path) (metrics_of es) ≡ Some its.points
  pub metrics : metrics_of (swap_remove es place (path, its)) ≡ remove_entry (bytes_eq path) (metrics_of es)
  pub places : keys_of (swap_remove es place (path, its)) ≡ swap_remove (keys_of es) place path

pub left : (next : ℕ) (es : List Entry) (place : ℕ) (path : List ℕ) (its : Numbered) → IsKept next es → slice_get es place ≡ Some (path, its) → Left next es place path its
left next es place path its kept here =
    let e : Entry = (path, its) in
    let rest = swap_remove es place e in
    let within = slice_get_within es place e here in
    let moved : IsPermutation es (e ∷ rest) = IsPermutation-swap_remove es place e within (sym (get_or_from_slice_get es place e e here)) in
    let numbers = IsPermutation-map number es (e ∷ rest) moved in
    record {
      kept = record {
        once = IsDistinct-tail bytes_eq path (keys_of rest) (keys_moved es (e ∷ rest) moved kept.once);
        below = All-tail (λ k. k < next) its.number (numbers_of rest) (All-permutation (λ k. k < next) (numbers_of es) (numbers_of (e ∷ rest)) numbers kept.below);
        apart = IsDistinct-tail ◌==◌ its.number (numbers_of rest) (numbers_moved es (e ∷ rest) moved kept.apart);
      };
      here = slice_get-map (λ (e : Entry). e.0) es place ∙ ap (option_map (λ (e : Entry). e.0)) here;
      points = lookup_shown es path kept.once ∙ ap (option_map (λ (m : Numbered). m.points)) (lookup_from_place nat_list_eq_equiv es place path its kept.once here);
      metrics = metrics_taken es rest e moved kept.once kept.apart;
      places = map-swap_remove (λ (e : Entry). e.0) es place e (omega (arith, within));
    }

-- what stands at a place
pub points_placed : (next : ℕ) (es : List Entry) (place : ℕ) (path key : List ℕ) (its : Numbered) → IsKept next es → slice_get es place ≡ Some (key, its)
    → slice_get (keys_of es) place ≡ Some path → lookup (bytes_eq path) (metrics_of es) ≡ Some its.points
points_placed next es place path key its kept here at =
    let here_too = slice_get-map (λ (e : Entry). e.0) es place ∙ ap (option_map (λ (e : Entry). e.0)) here in
    let same : path ≡ key = same_Some path key (sym at ∙ here_too) in
    subst (λ (p : List ℕ). lookup (bytes_eq p) (metrics_of es) ≡ Some its.points) (sym same)
    (lookup_shown es key kept.once ∙ ap (option_map (λ (m : Numbered). m.points)) (lookup_from_place nat_list_eq_equiv es place key its kept.once here))

-- a path has a place where it is pending
pub places_pending : (es : List Entry) (path : List ℕ) → is_some (position (bytes_eq path) (keys_of es)) ≡ is_some (position (bytes_eq path) (paths_of (metrics_of es)))
places_pending es path =
    some_index (bytes_eq path) es ∙ is_some-lookup (bytes_eq path) es
    ∙ sym (list_any-IsPermutation (bytes_eq path) (paths_of (metrics_of es)) (keys_of es) (paths_placed es))
    ∙ sym (some_index (bytes_eq path) (metrics_of es) ∙ is_some-lookup (bytes_eq path) (metrics_of es))
