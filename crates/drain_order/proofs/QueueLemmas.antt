-- The queue that is made, and what is left of it.
use Rattle.std.proofs.Common.{◌≡◌, ◌∙◌, ◌<◌, ◌≤◌, ◌+◌, ◌++◌, ℕ, List, [], ◌∷◌, None, Some, Option, drop, get_or, length, map, option_map, slice_get, suc, take, zero, is_some, refl, sym, ap, arith, true≢false}
use Rattle.std.specs.Cmp.{IsTotalOrder}
use Rattle.std.specs.Cmp.Lexicographic.{slice_cmp}
use Rattle.std.specs.List.Sorted.{IsPermutation, IsSorted}
use Rattle.std.specs.declared.cmp.Ordering.{Ordering}
use Rattle.std.specs.declared.cmp.Ordering.TheVariants.{Equal, Greater, Less}
use Rattle.std.specs.Ordering.{flip_args, is_gt, is_lt, nat_cmp, on, ordering_then, then_cmp}
use Rattle.std.proofs.lemmas.Cmp.{back_total, nat_cmp_total, nat_list_cmp_total, on_total, then_total}
use Rattle.std.proofs.lemmas.List.Sorted.{IsPermutation-map, IsPermutation-sym, IsPermutation-trans}
use Rattle.std.proofs.lemmas.Map.Lookups.{exact_bytes}
use Rattle.std.proofs.lemmas.List.{length-map, map-append, map_more, take_more}
use Rattle.std.proofs.lemmas.Option.{get_or_from_slice_get, none-some, same_Some, slice_get-get_or, slice_get-map, slice_get_within}
use Rattle.point_cache.specs.Pending.{Metrics, paths_of}
use Rattle.drain_order.specs.Pick.{Metric, by_count, sorted_by}
use Rattle.drain_order.specs.Queue.{waiting_of, waiting_paths}
use Rattle.drain_order.specs.declared.waiting.Waiting.{Waiting}
use Rattle.drain_order.proofs.PickLemmas.{Rises, RisesFrom, by_count_total, ranks, sorted_all, sorted_from_rises, sorted_rises}
use Rattle.drain_order.proofs.SortLemmas.{same_keys}

-- one path less in front
pub drop_front : (waiting : List Waiting) (n : ℕ) → waiting_paths (drop (n + 1) waiting) ≡ drop 1 (waiting_paths (drop n waiting))
drop_front [] zero = refl
drop_front [] (suc n) = let e : suc n + 1 ≡ suc (suc n) = omega arith in rw e refl
drop_front (w ∷ ws) zero = refl
drop_front (w ∷ ws) (suc n) = let e : suc n + 1 ≡ suc (n + 1) = omega arith in rw e (drop_front ws n)

-- none is left at the end, and one before it
pub none_left : (waiting : List Waiting) (n : ℕ) → length waiting ≤ n → waiting_paths (drop n waiting) ≡ []
none_left [] zero le = refl
none_left [] (suc n) le = refl
none_left (w ∷ ws) zero le = absurd (omega arith)
none_left (w ∷ ws) (suc n) le = none_left ws n (omega arith)

pub one_left : (waiting : List Waiting) (n : ℕ) → n < length waiting → waiting_paths (drop n waiting) ≡ [] → ⊥
one_left [] n lt e = absurd (omega arith)
one_left (w ∷ ws) zero lt e = true≢false ((ap (λ (xs : List (List ℕ)). is_some (slice_get xs 0)) e))
one_left (w ∷ ws) (suc n) lt e = one_left ws n (omega arith) e

-- one more metric
pub placed_more : (metrics : Metrics) (i : ℕ) (w : Waiting) → i < length metrics → w ≡ waiting_of (get_or metrics i ([], []))
    → map waiting_of (take i metrics) ++ w ∷ [] ≡ map waiting_of (take (i + 1) metrics)
placed_more metrics i w lt same = ap (λ x. map waiting_of (take i metrics) ++ x ∷ []) same ∙ sym (map_more waiting_of metrics i ([], []) lt)

-- what stands at the place that is next in order of arrival
pub next_arrived : (places : List (List ℕ)) (order : List ℕ) (paths : List (List ℕ)) (i place : ℕ) → map (slice_get places) order ≡ map Some paths → slice_get order i ≡ Some place
    → slice_get places place ≡ slice_get paths i
next_arrived places order paths i place same here = by (slice_get paths i) refl
  where
    both : Some (slice_get places place) ≡ option_map Some (slice_get paths i)
    both = sym (slice_get-map (slice_get places) order i ∙ ap (option_map (slice_get places)) here) ∙ ap (λ l. slice_get l i) same ∙ slice_get-map Some paths i

    by : (o : Option (List ℕ)) → slice_get paths i ≡ o → slice_get places place ≡ slice_get paths i
    by None e = absurd (none-some _ (sym (both ∙ ap (option_map Some) e)))
    by (Some p) e = same_Some _ _ (both ∙ ap (option_map Some) e) ∙ sym e

pub next_within : (places : List (List ℕ)) (order : List ℕ) (paths : List (List ℕ)) (i place : ℕ) → map (slice_get places) order ≡ map Some paths → slice_get order i ≡ Some place
    → place < length places
next_within places order paths i place same here =
    let long = sym (length-map order (slice_get places)) ∙ ap length same ∙ length-map paths Some in
    let within : i < length paths = omega (arith, slice_get_within order i place here, long) in
    slice_get_within places place _ (next_arrived places order paths i place same here ∙ slice_get-get_or paths i [] within)

pub as_many : (places : List (List ℕ)) (order : List ℕ) (paths : List (List ℕ)) → map (slice_get places) order ≡ map Some paths → length order ≡ length paths
as_many places order paths same = sym (length-map order (slice_get places)) ∙ ap length same ∙ length-map paths Some

pub arrived_more : (places : List (List ℕ)) (order : List ℕ) (paths : List (List ℕ)) (ws : List Waiting) (w : Waiting) (i place : ℕ) → map (slice_get places) order ≡ map Some paths
    → slice_get order i ≡ Some place → slice_get places place ≡ Some w.path → waiting_paths ws ≡ take i paths → waiting_paths (ws ++ w ∷ []) ≡ take (i + 1) paths
arrived_more places order paths ws w i place same here at done =
    let its : slice_get paths i ≡ Some w.path = sym (next_arrived places order paths i place same here) ∙ at in
    map-append (λ (w : Waiting). w.path) ws (w ∷ []) ∙ ap (λ l. l ++ w.path ∷ []) done
    ∙ ap (λ (p : List ℕ). take i paths ++ p ∷ []) (sym (get_or_from_slice_get paths i w.path w.path its))
    ∙ sym (take_more paths i w.path (slice_get_within paths i w.path its))

-- the order of the queue
abbrev pub by_waiting : Waiting → Waiting → Ordering
by_waiting = then_cmp (flip_args (on (λ w. w.count) nat_cmp)) (on (λ w. w.path) (slice_cmp nat_cmp))

by_waiting_total : IsTotalOrder by_waiting
by_waiting_total = then_total (back_total (on_total (λ (w : Waiting). w.count) nat_cmp_total)) (on_total (λ (w : Waiting). w.path) nat_list_cmp_total)

waiting_rises : (x : Metric) (xs : Metrics) → RisesFrom (λ a b. is_lt (by_count a b)) x xs → RisesFrom (λ a b. is_lt (by_waiting a b)) (waiting_of x) (map waiting_of xs)
waiting_rises x [] up = tt
waiting_rises x (y ∷ ys) up = (up.0, waiting_rises y ys up.1)

all_waiting_rise : (xs : Metrics) → Rises (λ a b. is_lt (by_count a b)) xs → Rises (λ a b. is_lt (by_waiting a b)) (map waiting_of xs)
all_waiting_rise [] up = tt
all_waiting_rise (x ∷ xs) up = waiting_rises x xs up

waiting_paths_of : (xs : Metrics) → waiting_paths (map waiting_of xs) ≡ paths_of xs
waiting_paths_of [] = refl
waiting_paths_of (x ∷ xs) = ap (λ ps. x.0 ∷ ps) (waiting_paths_of xs)

-- what ties by one order and then by path has one path
pub tied_second : (r : Ordering) (a b : List ℕ) → ordering_then r (slice_cmp nat_cmp a b) ≡ Equal → a ≡ b
tied_second Less a b h = absurd (true≢false (ap is_lt h))
tied_second Equal a b h = exact_bytes a b h
tied_second Greater a b h = absurd (true≢false (ap is_gt h))

tied_path : (a b : Waiting) → by_waiting a b ≡ Equal → a.path ≡ b.path
tied_path a b h = tied_second (nat_cmp b.count a.count) a.path b.path h

-- what a sort makes of the metrics in order of arrival
sorted_all_paths : (metrics : Metrics) (ws : List Waiting) → IsPermutation (map waiting_of metrics) ws → IsSorted by_waiting ws
    → waiting_paths ws ≡ paths_of (sorted_by by_count metrics)
sorted_all_paths metrics ws moved sorted =
    let made = sorted_by by_count metrics in
    let rises : Rises (λ a b. is_lt (by_waiting a b)) (map waiting_of made) = all_waiting_rise made (sorted_rises by_count (ranks by_count by_count_total) metrics) in
    let same : IsPermutation ws (map waiting_of made) = IsPermutation-trans _ _ _ (IsPermutation-sym _ _ moved) (IsPermutation-map waiting_of _ _ (sorted_all by_count metrics)) in
    same_keys by_waiting by_waiting_total (λ (w : Waiting). w.path) tied_path ws (map waiting_of made) sorted (sorted_from_rises (λ a b. is_lt (by_waiting a b)) (map waiting_of made) rises) same ∙ waiting_paths_of made

-- what a sort makes of the metrics by place
pub sorted_paths : (metrics moved : Metrics) (ws : List Waiting) → IsPermutation metrics moved → IsPermutation (map waiting_of moved) ws → IsSorted by_waiting ws
    → waiting_paths ws ≡ paths_of (sorted_by by_count metrics)
sorted_paths metrics moved ws all again sorted = sorted_all_paths metrics ws (IsPermutation-trans _ _ _ (IsPermutation-map waiting_of metrics moved all) again) sorted
