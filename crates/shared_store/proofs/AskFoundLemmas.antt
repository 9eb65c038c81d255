-- What the needs of a question find, and the rows that are read of it.
use Rattle.std.proofs.Common.{◌≡◌, ◌≢◌, ◌⊎◌, ◌↔◌, inl, inr, ◌∙◌, ℕ, ℤ, zero, suc, ◌<◌, ◌≤◌, ◌+◌, ◌-◌, ◌*◌, ◌/◌, Ordering, Less, Bool, true, List, [], ◌∷◌, ◌++◌, length, map, Option, Some, None, IfSome, IsSome, refl, sym, ap, subst, arith, length-append, slice_get, rules}
use Rattle.std.specs.Prelude.{All, Contains, IsSomeAnd}
use Rattle.std.specs.Cmp.{IsEquivalence, IsStrictWeakOrder, IsTotalOrder}
use Rattle.std.specs.Cmp.Lexicographic.{slice_cmp}
use Rattle.std.specs.Cmp.Rules.{comparing}
use Rattle.std.specs.List.{AllByRecursion, Any, dedup, sum_by}
use Rattle.std.specs.List.Sorted.{IsPermutation, IsSortedBy, IsStrictlySortedBy}
use Rattle.std.specs.Option.{option_map_or}
use Rattle.std.specs.Ordering.{eq_by_cmp, is_lt, nat_cmp}
use Rattle.std.specs.Str.{bytes_eq}
use Rattle.std.proofs.lemmas.Cmp.{nat_list_cmp_total}
use Rattle.std.proofs.lemmas.Bool.{false≢true}
use Rattle.std.proofs.lemmas.List.{length-map, map-append}
use Rattle.std.proofs.lemmas.List.Elements.{All-append, All-contains, All-contains_itself, All-cons, All-head, All-nil, All-tail, All-weaker, Contains-append_cases, Contains-append_left, Contains-append_right}
use Rattle.std.proofs.lemmas.List.FromFn.{length-map-range_with_len}
use Rattle.std.proofs.lemmas.List.Kept.{Any-dedup, Contains-from_dedup, IsStrictlySortedBy-dedup}
use Rattle.std.proofs.lemmas.List.MinMax.{ranks_by}
use Rattle.std.proofs.lemmas.List.Sorted.{Contains-permutation, IsPermutation-sym}
use Rattle.std.proofs.lemmas.List.Sums.{sum_by-cons}
use Rattle.std.proofs.lemmas.Slice.Eq.{bytes_eq-Decides}
use Rattle.std.proofs.Math.Nat.{mod-lt}
use Rattle.outside_io.specs.Image.{Image}
use Rattle.metric_path.specs.Class.{class_of, fnv1a}
use Rattle.metric_index.specs.Found.{IsFitted}
use Rattle.ring_format.specs.Layout.{LayoutValue}
use Rattle.ring_format.specs.declared.archive.Archive.{Archive}
use Rattle.ring_archive.specs.Ring.{Rings}
use Rattle.series_fetch.specs.declared.range.Window.{Window}
use Rattle.series_fetch.specs.declared.range.Window.TheVariants.{Empty, Range}
use Rattle.series_fetch.specs.Window.{window}
use Rattle.series_fetch.specs.Shown.{shown, shown_from, shown_in}
use Rattle.carbon_history.specs.declared.entry.Entry.{Entry}
use Rattle.carbon_history.specs.Entries.{about_class}
use Rattle.carbon_model.specs.declared.series.Series.{Series}
use Rattle.carbon_model.specs.State.{Kept, SamePart, State, layout_of, layout_or, points_in, rings_of}
use Rattle.carbon_model.specs.Found.{IsKnown}
use Rattle.carbon_model.specs.Replay.{replay}
use Rattle.carbon_model.specs.Series.{series_at, series_in, series_of}
use Rattle.carbon_model.proofs.FoundLemmas.{same_members}
use Rattle.carbon_model.proofs.PartLemmas.{same_sym}
use Rattle.shard_core.specs.Looks.{Looks, TellsOf, bucket_count, looked_paths}
use Rattle.shard_core.specs.declared.looked.Looked.{Looked}
use Rattle.series_set.specs.Series.{SeriesValue}
use Rattle.series_funcs.specs.Combined.{most_series}
use Rattle.render_need.specs.declared.need.Need.{Need}
use Rattle.render_need.specs.Rows.{AreRows, IsEarly, Rows, concat, latest_row_end}
use Rattle.found_rows.specs.Rows as answer
use Rattle.shared_store.specs.Asking.{HasGrid, InOrder, IsLookOf, IsReadable, IsSeriesAt, IsShortLook, IsWithin, LooksBelow, LooksUp, Pairwise, PutsInOrder, all_buckets, all_series, buckets_of, set_buckets}
use Rattle.shared_store.proofs.AskStateLemmas.{known_alike, layout_alike, part_of, points_alike}

-- ---- members

pub nothing : {X : Type 0} {x : X} → Contains [] x → ⊥
nothing c = omega (arith, c.1)

only_one : {X : Type 0} (x y : X) → Contains (x ∷ []) y → x ≡ y
only_one x y (zero, l, e) = e
only_one x y (suc k, l, e) = absurd (omega (arith, l))

pub first_or_later : {X : Type 0} (x : X) (xs : List X) (y : X) → Contains (x ∷ xs) y → (x ≡ y) ⊎ Contains xs y
first_or_later x xs y c = elim (Contains-append_cases (x ∷ []) xs y c) [
  | inl here ↦ inl (only_one x y here)
  | inr later ↦ inr later
]

pub here_first : {X : Type 0} (x : X) (xs : List X) (y : X) → x ≡ y → Contains (x ∷ xs) y
here_first x xs y e = (0, omega arith, e)

pub in_later : {X : Type 0} (x : X) (xs : List X) (y : X) → Contains xs y → Contains (x ∷ xs) y
in_later x xs y c = Contains-append_right (x ∷ []) xs y c

pub path_in : (found : List Looked) (looked : Looked) → Contains found looked → Contains (looked_paths found) looked.path
path_in [] looked c = absurd (nothing c)
path_in (x ∷ found) looked c = elim (first_or_later x found looked c) [
  | inl same ↦ here_first x.path (looked_paths found) looked.path (ap (λ (l : Looked). l.path) same)
  | inr later ↦ in_later x.path (looked_paths found) looked.path (path_in found looked later)
]

pub path_from : (found : List Looked) (path : List ℕ) → Contains (looked_paths found) path → (looked : Looked) × Contains found looked × (looked.path ≡ path)
path_from [] path c = absurd (nothing c)
path_from (x ∷ found) path c = elim (first_or_later x.path (looked_paths found) path c) [
  | inl same ↦ (x, here_first x found x refl, same)
  | inr later ↦ let it = path_from found path later in (it.0, in_later x found it.0 it.1, it.2)
]

pub all_by : {X : Type 0} (P : X → Type 0) (xs : List X) → ((x : X) → Contains xs x → P x) → All P xs
all_by P xs each = All-weaker (Contains xs) P each xs (All-contains_itself xs)

pub below_or_same : (k n : ℕ) → k < n + 1 → (k < n) ⊎ (k ≡ n)
below_or_same zero zero less = inr refl
below_or_same zero (suc n) less = inl (omega arith)
below_or_same (suc k) zero less = absurd (omega (arith, less))
below_or_same (suc k) (suc n) less = elim (below_or_same k n (omega (arith, less))) [
  | inl l ↦ inl (omega (arith, l))
  | inr e ↦ inr (ap suc e)
]

-- ---- one class more

module _ (start : State) (list : List Entry) (class now : ℕ) (need : Need) where
  abbrev pub part : State
  part = replay start (about_class class list)

  abbrev pub whole : State
  whole = replay start list

  there : SamePart class whole part
  there = part_of start list class

  pub back : SamePart class part whole
  back = same_sym class whole part there

  pub layout_back : (path : List ℕ) → class_of path ≡ class → layout_of part path ≡ layout_of whole path
  layout_back path here = layout_alike class part whole path back here

  pub window_alike : (path : List ℕ) → class_of path ≡ class → window (layout_of part path) now need.from need.until ≡ window (layout_of whole path) now need.from need.until
  window_alike path here = ap (λ (layout : LayoutValue). window layout now need.from need.until) (layout_alike class part whole path back here)

  pub class_finds : (more : List Looked) → Looks class part (IsFitted need.glob) now need.from need.until more → (path : List ℕ)
      → Contains (looked_paths more) path ↔ ((class_of path ≡ class) × (answer.IsAsked whole now need path × IsKnown whole path))
  class_finds more looks path = (
    λ c. let it = (looks.found.found path).0 c in (
      it.0.0.here,
      (
        record { legal = it.0.0.legal; fits = it.0.1.0; some = λ none. it.0.1.1 (window_alike path it.0.0.here ∙ none) },
        known_alike class part whole path back it.0.0.here it.1,
      ),
    ),
    λ it. (looks.found.found path).1 (
      (record { legal = it.1.0.legal; here = it.0 }, (it.1.0.fits, λ none. it.1.0.some (sym (window_alike path it.0) ∙ none))),
      known_alike class whole part path there it.0 it.1.1,
    ),
  )

  class_look : (more : List Looked) → Looks class part (IsFitted need.glob) now need.from need.until more → All IsReadable more → (looked : Looked) → Contains more looked
      → IsLookOf whole now need looked
  class_look more looks readable looked c =
      let tells = All-contains (TellsOf part now need.from need.until) more looked looks.each c in
      let it = (class_finds more looks looked.path).0 (path_in more looked c) in record {
        look = record {
          legal = it.1.0.legal;
          known = it.1.1;
          layout = tells.layout ∙ layout_alike class part whole looked.path back it.0;
          pending = tells.pending ∙ points_alike class part whole looked.path back it.0;
          drains = tells.drains ∙ back.drains looked.path it.0;
          readable = All-contains IsReadable more looked readable c;
        };
        asked = it.1.0;
        window = tells.window ∙ window_alike looked.path it.0;
      }

  pub less_more : (k : ℕ) → k < class → k < class + 1
  less_more k less = omega (arith, less)

  pub same_more : (k : ℕ) → k ≡ class → k < class + 1
  same_more k same = omega (arith, same)

  pub looks_more : (found more : List Looked) → LooksBelow class whole now need found → Looks class part (IsFitted need.glob) now need.from need.until more → All IsReadable more
      → LooksBelow (class + 1) whole now need (found ++ more)
  looks_more found more before looks readable = record {
    all = λ path. (
      λ c. elim (Contains-append_cases (looked_paths found) (looked_paths more) path (subst (λ (l : List (List ℕ)). Contains l path) (map-append (λ (x : Looked). x.path) found more) c)) [
        | inl old ↦ let it = (before.all path).0 old in (less_more (class_of path) it.0, it.1)
        | inr new ↦ let it = (class_finds more looks path).0 new in (same_more (class_of path) it.0, it.1)
      ],
      λ it. subst (λ (l : List (List ℕ)). Contains l path) (sym (map-append (λ (x : Looked). x.path) found more)) (elim (below_or_same (class_of path) class it.0) [
        | inl less ↦ Contains-append_left (looked_paths found) (looked_paths more) path ((before.all path).1 (less, it.1))
        | inr same ↦ Contains-append_right (looked_paths found) (looked_paths more) path ((class_finds more looks path).1 (same, it.1))
      ]),
    );
    each = All-append (IsLookOf whole now need) found more before.each (all_by (IsLookOf whole now need) more (class_look more looks readable));
  }

not_below : (n : ℕ) → n < 0 → ⊥
not_below n less = omega (arith, less)

pub looks_none : (s : State) (now : ℕ) (need : Need) → LooksBelow 0 s now need []
looks_none s now need = record {
  all = λ path. (λ c. absurd (nothing c), λ it. absurd (not_below (class_of path) it.0));
  each = All-nil (IsLookOf s now need);
}

pub looks_up : (s : State) (now : ℕ) (need : Need) (found : List Looked) → LooksBelow 16 s now need found → LooksUp s now need found
looks_up s now need found below = record {
  all = λ path. (λ c. ((below.all path).0 c).1, λ it. (below.all path).1 (mod-lt (fnv1a path) (omega arith), it));
  each = below.each;
}

-- ---- in order

abbrev path_order : Looked → Looked → Ordering
path_order one other = slice_cmp nat_cmp one.path other.path

abbrev pub path_below : Looked → Looked → Bool
path_below one other = is_lt (slice_cmp nat_cmp one.path other.path)

abbrev pub path_same : Looked → Looked → Bool
path_same one other = bytes_eq one.path other.path

pub path_ranks : IsStrictWeakOrder path_below
path_ranks = ranks_by nat_list_cmp_total (λ (l : Looked). l.path)

path_total : IsTotalOrder path_order
path_total = search (comparing, rules) depth 9

path_equiv : IsEquivalence path_same
path_equiv = search (comparing, rules) depth 9

path_ties : (one other : Looked) → path_same one other ≡ eq_by_cmp path_order one other
path_ties = search (comparing, rules) depth 9

less_paths : (x : Looked) (xs : List Looked) → AllByRecursion (λ y. path_order x y ≡ Less) xs → AllByRecursion (λ p. slice_cmp nat_cmp x.path p ≡ Less) (looked_paths xs)
less_paths x [] all = all
less_paths x (y ∷ xs) all = (all.0, less_paths x xs all.1)

in_order : (xs : List Looked) → IsStrictlySortedBy path_order xs → InOrder xs
unfolding IsStrictlySortedBy
in_order [] sorted = sorted
in_order (x ∷ xs) sorted = (less_paths x xs sorted.0, in_order xs sorted.1)

pub puts_in_order : (found sorted once : List Looked) → IsPermutation found sorted → IsSortedBy path_below sorted → once ≡ dedup path_same sorted → PutsInOrder found once
puts_in_order found sorted once moved ordered is =
    let from : (looked : Looked) → Contains once looked → Contains found looked =
    λ looked c. Contains-permutation sorted found looked (IsPermutation-sym found sorted moved)
    (Contains-from_dedup path_same sorted looked (subst (λ (l : List Looked). Contains l looked) is c)) in record {
      in_order = in_order once (subst (IsStrictlySortedBy path_order) (sym is) (IsStrictlySortedBy-dedup path_total path_ties sorted ordered));
      paths = λ path. (
        λ c. let it = path_from once path c in subst (λ (p : List ℕ). Contains (looked_paths found) p) it.2 (path_in found it.0 (from it.0 it.1)),
        λ c. let it = path_from found path c in
            let kept : Any (λ y. path_same it.0 y ≡ true) once =
            subst (λ (l : List Looked). Any (λ y. path_same it.0 y ≡ true) l) (sym is) (Any-dedup path_equiv sorted it.0 (Contains-permutation found sorted it.0 moved it.1)) in
            subst (λ (p : List ℕ). Contains (looked_paths once) p) (sym ((bytes_eq-Decides it.0.path kept.1.path).0 kept.4) ∙ it.2)
            (path_in once kept.1 (kept.0, kept.2, kept.3)),
      );
      from = from;
    }

pub looks_sorted : (s : State) (now : ℕ) (need : Need) (found sorted : List Looked) → LooksUp s now need found → PutsInOrder found sorted → LooksUp s now need sorted
looks_sorted s now need found sorted up puts = record {
  all = λ path. (λ c. (up.all path).0 ((puts.paths path).0 c), λ it. (puts.paths path).1 ((up.all path).1 it));
  each = all_by (IsLookOf s now need) sorted (λ looked c. All-contains (IsLookOf s now need) found looked up.each (puts.from looked c));
}

-- ---- pairs

pub pairwise_none : {A B : Type 0} (P : A → B → Type 0) → Pairwise P [] []
pairwise_none P = refl

pub pairwise_more : {A B : Type 0} (P : A → B → Type 0) (xs : List A) (ys : List B) (x : A) (y : B) → Pairwise P xs ys → P x y → Pairwise P (xs ++ x ∷ []) (ys ++ y ∷ [])
pairwise_more P [] [] x y all one = (one, refl)
pairwise_more P [] (z ∷ ys) x y all one = absurd (cc all)
pairwise_more P (w ∷ xs) [] x y all one = absurd all
pairwise_more P (w ∷ xs) (z ∷ ys) x y all one = (all.0, pairwise_more P xs ys x y all.1 one)

pub pairwise_both : {A B C : Type 0} (P : A → B → Type 0) (Q : B → C → Type 0) (R : A → C → Type 0) → ((x : A) (y : B) (z : C) → P x y → Q y z → R x z)
    → (xs : List A) (ys : List B) (zs : List C) → Pairwise P xs ys → Pairwise Q ys zs → Pairwise R xs zs
pairwise_both P Q R both [] [] zs p q = q
pairwise_both P Q R both [] (y ∷ ys) zs p q = absurd (cc p)
pairwise_both P Q R both (x ∷ xs) [] zs p q = absurd p
pairwise_both P Q R both (x ∷ xs) (y ∷ ys) [] p q = absurd q
pairwise_both P Q R both (x ∷ xs) (y ∷ ys) (z ∷ zs) p q = (both x y z p.0 q.0, pairwise_both P Q R both xs ys zs p.1 q.1)

pub pairwise_right : {A B : Type 0} (P : A → B → Type 0) (Q : B → Type 0) → ((x : A) (y : B) → P x y → Q y) → (xs : List A) (ys : List B) → Pairwise P xs ys → All Q ys
pairwise_right P Q each [] [] p = All-nil Q
pairwise_right P Q each [] (y ∷ ys) p = absurd (cc p)
pairwise_right P Q each (x ∷ xs) [] p = absurd p
pairwise_right P Q each (x ∷ xs) (y ∷ ys) p = All-cons Q y ys (each x y p.0) (pairwise_right P Q each xs ys p.1)

-- ---- what the needs find

-- the looks of a need, in order
pub record FoundOf (s : State) (now : ℕ) (need : Need) (found : List Looked) : Type 0 where
  pub up : LooksUp s now need found
  pub order : InOrder found

pub found_of : (s : State) (now : ℕ) (needs : List Need) (sets sorted : List (List Looked)) → Pairwise (LooksUp s now) needs sets → Pairwise PutsInOrder sets sorted
    → Pairwise (FoundOf s now) needs sorted
found_of s now needs sets sorted up puts =
    pairwise_both (LooksUp s now) PutsInOrder (FoundOf s now) (λ need found set u p. record { up = looks_sorted s now need found set u p; order = p.in_order }) needs sets sorted up puts

finds_of : (s : State) (now : ℕ) (need : Need) (found : List Looked) → FoundOf s now need found → answer.FindsOf s now need (looked_paths found)
finds_of s now need found f = record { in_order = f.order; found = f.up.all }

-- ---- a path that is found

pub found_within : (s : State) (now : ℕ) (needs : List Need) (sets : List (List Looked)) (path : List ℕ) → Pairwise (FoundOf s now) needs sets → IsWithin sets path
    → answer.IsFoundBy s now needs path
found_within s now needs sets path p within = by needs sets p within.set within.there within.one
  where
    more : (need : Need) (needs : List Need) → answer.IsFoundBy s now needs path → answer.IsFoundBy s now (need ∷ needs) path
    more need needs f = record { need = f.need; one = in_later need needs f.need f.one; asked = f.asked; known = f.known }

    by : (needs : List Need) (sets : List (List Looked)) → Pairwise (FoundOf s now) needs sets → (set : List Looked) → Contains sets set → Contains (looked_paths set) path
        → answer.IsFoundBy s now needs path
    by [] [] p set c one = absurd (nothing c)
    by [] (x ∷ sets) p set c one = absurd (cc p)
    by (need ∷ needs) [] p set c one = absurd p
    by (need ∷ needs) (x ∷ sets) p set c one = elim (first_or_later x sets set c) [
      | inl same ↦
          let it = (p.0.up.all path).0 (subst (λ (l : List Looked). Contains (looked_paths l) path) (sym same) one) in
          record { need = need; one = here_first need needs need refl; asked = it.0; known = it.1 }
      | inr later ↦ more need needs (by needs sets p.1 set later one)
    ]

-- ---- how much is found

pub series_counted : (sets : List (List Looked)) → answer.series_count (map looked_paths sets) ≡ all_series sets
unfolding all_series
series_counted [] = refl
series_counted (set ∷ sets) = (λ i. length-map set (λ (l : Looked). l.path) i + series_counted sets i) ∙ sym (sum_by-cons length set sets)

shown_length : (layout : LayoutValue) (rings : Rings) (points : List (ℕ × ℤ)) (i first end : ℕ) (o : Option Archive)
    → length (option_map_or (λ archive. shown_from layout rings points i archive.step first ((end - first) / archive.step)) o []) ≡ option_map_or (λ archive. (end - first) / archive.step) o 0
unfolding shown_from
shown_length layout rings points i first end None = refl
shown_length layout rings points i first end (Some archive) =
    length-map-range_with_len (λ k. shown_in layout rings points i archive.step (first + k * archive.step)) 0 ((end - first) / archive.step)

pub shown_count : (layout : LayoutValue) (rings : Rings) (points : List (ℕ × ℤ)) (w : Window) → length (shown layout rings points w) ≡ bucket_count layout w
shown_count layout rings points Empty = refl
shown_count layout rings points (Range i first end) = shown_length layout rings points i first end (slice_get layout.archives i)

in_count : (layout : LayoutValue) (rings : Rings) (points : List (ℕ × ℤ)) (w : Window)
    → option_map_or (λ (s : Series). length s.values) (series_in layout rings points w) 0 ≡ bucket_count layout w
in_count layout rings points Empty = refl
in_count layout rings points (Range i first end) = shown_count layout rings points (Range i first end)

series_is : (given : LayoutValue) (o : Option Kept) (points : List (ℕ × ℤ)) (now from until : ℕ) → (points ≢ []) ⊎ IsSome o
    → series_of given o points now from until ≡ series_in (layout_or given o) (rings_of o) points (window (layout_or given o) now from until)
series_is given None [] now from until (inl some) = absurd (some refl)
series_is given None [] now from until (inr kept) = absurd (false≢true kept)
series_is given None (p ∷ ps) now from until known = refl
series_is given (Some kept) points now from until known = refl

pub series_found : (s : State) (path : List ℕ) (now from until : ℕ) → IsKnown s path
    → series_at s path now from until ≡ series_in (layout_of s path) (rings_of (s.kept path)) (points_in s path) (window (layout_of s path) now from until)
series_found s path now from until known = series_is (s.rules path) (s.kept path) (points_in s path) now from until known

pub value_counted : (s : State) (now : ℕ) (need : Need) (looked : Looked) → IsKnown s looked.path → looked.layout ≡ layout_of s looked.path
    → looked.window ≡ answer.window_of s now need looked.path → answer.value_count s now need looked.path ≡ bucket_count looked.layout looked.window
value_counted s now need looked known layout is =
    ap (λ (o : Option Series). option_map_or (λ (x : Series). length x.values) o 0) (series_found s looked.path now need.from need.until known)
    ∙ (in_count (layout_of s looked.path) (rings_of (s.kept looked.path)) (points_in s looked.path) (answer.window_of s now need looked.path)
    ∙ (λ i. bucket_count (sym layout i) (sym is i)))

values_counted : (s : State) (now : ℕ) (need : Need) (looked : Looked) → IsLookOf s now need looked → answer.value_count s now need looked.path ≡ buckets_of looked
unfolding buckets_of
values_counted s now need looked l = value_counted s now need looked l.look.known l.look.layout l.window

set_counted : (s : State) (now : ℕ) (need : Need) (found : List Looked) → All (IsLookOf s now need) found → answer.value_count_of s now need (looked_paths found) ≡ set_buckets found
unfolding set_buckets
set_counted s now need [] all = refl
set_counted s now need (x ∷ found) all =
    (λ i. values_counted s now need x (All-head (IsLookOf s now need) x found all) i + set_counted s now need found (All-tail (IsLookOf s now need) x found all) i)
    ∙ sym (sum_by-cons buckets_of x found)

pub all_counted : (s : State) (now : ℕ) (needs : List Need) (sets : List (List Looked)) → Pairwise (FoundOf s now) needs sets
    → answer.value_count_all s now needs (map looked_paths sets) ≡ all_buckets sets
unfolding all_buckets
all_counted s now [] [] p = refl
all_counted s now [] (set ∷ sets) p = absurd (cc p)
all_counted s now (need ∷ needs) [] p = absurd p
all_counted s now (need ∷ needs) (set ∷ sets) p =
    (λ i. set_counted s now need set p.0.up.each i + all_counted s now needs sets p.1 i) ∙ sym (sum_by-cons set_buckets set sets)

at_most : (a b c : ℕ) → a ≡ b → b ≤ c → a ≤ c
at_most a b c e le = omega (arith, e, le)

-- what is found is what was counted
same_found : (s : State) (now : ℕ) (needs : List Need) (found : List (List (List ℕ))) (sets : List (List Looked)) → answer.FindsAll s now needs found
    → Pairwise (FoundOf s now) needs sets → found ≡ map looked_paths sets
same_found s now [] found [] finds p = finds
same_found s now [] found (set ∷ sets) finds p = absurd (cc p)
same_found s now (need ∷ needs) [] sets finds p = absurd finds
same_found s now (need ∷ needs) (paths ∷ found) [] finds p = absurd p
same_found s now (need ∷ needs) (paths ∷ found) (set ∷ sets) finds p =
    let other = finds_of s now need set p.0 in
    let one : paths ≡ looked_paths set = same_members paths (looked_paths set) finds.0.in_order other.in_order
    (λ path c. (other.found path).1 ((finds.0.found path).0 c)) (λ path c. (finds.0.found path).1 ((other.found path).0 c)) in
    let more = same_found s now needs found sets finds.1 p.1 in
    λ i. one i ∷ more i

pub few_found : (s : State) (now : ℕ) (needs : List Need) (sets : List (List Looked)) → answer.FindsFew s now needs → Pairwise (FoundOf s now) needs sets
    → (all_series sets ≤ most_series) × (all_buckets sets ≤ answer.most_points)
few_found s now needs sets few p =
    let same : few.found ≡ map looked_paths sets = same_found s now needs few.found sets few.finds p in (
      at_most (all_series sets) (answer.series_count few.found) most_series (sym (series_counted sets) ∙ ap answer.series_count (sym same)) few.few,
      at_most (all_buckets sets) (answer.value_count_all s now needs few.found) answer.most_points
          (sym (all_counted s now needs sets p) ∙ ap (answer.value_count_all s now needs) (sym same)) few.short,
    )

-- ---- short looks

one_of_sum : {X : Type 0} (f : X → ℕ) (xs : List X) (x : X) (most : ℕ) → sum_by f xs ≤ most → Contains xs x → f x ≤ most
one_of_sum f [] x most le c = absurd (nothing c)
one_of_sum {X} f (y ∷ xs) x most le c = elim (first_or_later y xs x c) [
  | inl same ↦ subst (λ (z : X). f z ≤ most) same (omega (arith, le, sum_by-cons f y xs))
  | inr later ↦ one_of_sum f xs x most (omega (arith, le, sum_by-cons f y xs)) later
]

short_set : (s : State) (now : ℕ) (need : Need) (found : List Looked) → FoundOf s now need found → set_buckets found ≤ answer.most_points → All (IsShortLook s) found
unfolding set_buckets
short_set s now need found f few = all_by (IsShortLook s) found (λ looked c.
    let l = All-contains (IsLookOf s now need) found looked f.up.each c in
    record { look = l.look; some = λ none. l.asked.some (sym l.window ∙ none); few = one_of_sum buckets_of found looked answer.most_points few c })

pub all_short : (s : State) (now : ℕ) (needs : List Need) (sets : List (List Looked)) → Pairwise (FoundOf s now) needs sets → all_buckets sets ≤ answer.most_points → All (All (IsShortLook s)) sets
unfolding all_buckets
all_short s now [] [] p few = All-nil (All (IsShortLook s))
all_short s now [] (set ∷ sets) p few = absurd (cc p)
all_short s now (need ∷ needs) [] p few = absurd p
all_short s now (need ∷ needs) (set ∷ sets) p few =
    All-cons (All (IsShortLook s)) set sets (short_set s now need set p.0 (omega (arith, few, sum_by-cons set_buckets set sets)))
    (all_short s now needs sets p.1 (omega (arith, few, sum_by-cons set_buckets set sets)))

-- ---- rows

is_of : (layout : LayoutValue) (rings : Rings) (points : List (ℕ × ℤ)) (w : Window) (series : SeriesValue) → HasGrid layout w series → series.values ≡ shown layout rings points w
    → IsSomeAnd (series_in layout rings points w) (λ (x : Series). answer.IsOf x series)
is_of layout rings points Empty series grid values = absurd grid
is_of layout rings points (Range i first end) series grid values = record { start = grid.0; step = grid.1; values = values }

if_told : {A : Type 0} (o : Option A) (P Q : Type 0) → (P → Q) → IfSome o (λ x. P) → IfSome o (λ x. Q)
if_told None P Q more p = p
if_told (Some x) P Q more p = more p

module _ (told : ℕ → Option Image) (s : State) (now : ℕ) (need : Need) where
  -- a look has what the state has
  as_looked : (looked : Looked) (P : LayoutValue → List (ℕ × ℤ) → Window → Type 0) → IsLookOf s now need looked → P looked.layout looked.pending looked.window
      → P (layout_of s looked.path) (points_in s looked.path) (answer.window_of s now need looked.path)
  as_looked looked P l p =
      subst (λ (w : Window). P (layout_of s looked.path) (points_in s looked.path) w) l.window
      (subst (λ (points : List (ℕ × ℤ)). P (layout_of s looked.path) points looked.window) l.look.pending
      (subst (λ (layout : LayoutValue). P layout looked.pending looked.window) l.look.layout p))

  -- values over what the state keeps are what the state shows
  series_as : (looked : Looked) (series : SeriesValue) → IsLookOf s now need looked → IsSeriesAt told s looked series
      → series.values ≡ shown looked.layout (rings_of (s.kept looked.path)) looked.pending looked.window
      → IsSomeAnd (series_at s looked.path now need.from need.until) (λ (x : Series). answer.IsOf x series)
  series_as looked series l at values =
      subst (λ (o : Option Series). IsSomeAnd o (λ (x : Series). answer.IsOf x series)) (sym (series_found s looked.path now need.from need.until l.look.known))
      (as_looked looked (λ layout points w. IsSomeAnd (series_in layout (rings_of (s.kept looked.path)) points w) (λ (x : Series). answer.IsOf x series)) l
      (is_of looked.layout (rings_of (s.kept looked.path)) looked.pending looked.window series at.grid values))

  bare_as : (looked : Looked) (series : SeriesValue) → IsLookOf s now need looked → IsSeriesAt told s looked series → s.kept looked.path ≡ None
      → IsSomeAnd (series_at s looked.path now need.from need.until) (λ (x : Series). answer.IsOf x series)
  bare_as looked series l at none =
      series_as looked series l at (subst (λ (o : Option Kept). series.values ≡ shown looked.layout (rings_of o) looked.pending looked.window) (sym none) (at.values.bare none))

  shown_as : (looked : Looked) (series : SeriesValue) → IsLookOf s now need looked → IsSeriesAt told s looked series → answer.IsShown told s now need series
  shown_as looked series l at =
      let some = at.values.pending.some in record {
        named = at.named;
        pending = subst (λ (p : List ℕ). answer.ShowsPending (layout_of s p) (points_in s p) (answer.window_of s now need p) series) (sym at.path)
            (as_looked looked (λ layout points w. answer.ShowsPending layout points w series) l (some.0, is_of looked.layout some.0 looked.pending looked.window series at.grid some.1));
        bare = subst (λ (p : List ℕ). s.kept p ≡ None → IsSomeAnd (series_at s p now need.from need.until) (λ (x : Series). answer.IsOf x series)) (sym at.path)
            (bare_as looked series l at);
        kept = subst (λ (p : List ℕ). IfSome (told (class_of p)) (λ opening. IsSomeAnd (series_at s p now need.from need.until) (λ (x : Series). answer.IsOf x series))) (sym at.path)
            (if_told (told (class_of looked.path)) (series.values ≡ shown looked.layout (rings_of (s.kept looked.path)) looked.pending looked.window)
            (IsSomeAnd (series_at s looked.path now need.from need.until) (λ (x : Series). answer.IsOf x series)) (series_as looked series l at) at.values.kept);
      }

  row_shown : (found : List Looked) (row : List SeriesValue) → All (IsLookOf s now need) found → Pairwise (IsSeriesAt told s) found row → All (answer.IsShown told s now need) row
  row_shown [] [] all p = All-nil (answer.IsShown told s now need)
  row_shown [] (x ∷ row) all p = absurd (cc p)
  row_shown (l ∷ found) [] all p = absurd p
  row_shown (l ∷ found) (x ∷ row) all p =
      All-cons (answer.IsShown told s now need) x row (shown_as l x (All-head (IsLookOf s now need) l found all) p.0)
      (row_shown found row (All-tail (IsLookOf s now need) l found all) p.1)

  row_paths : (found : List Looked) (row : List SeriesValue) → Pairwise (IsSeriesAt told s) found row → map (λ (x : SeriesValue). x.path) row ≡ looked_paths found
  row_paths [] [] p = refl
  row_paths [] (x ∷ row) p = absurd (cc p)
  row_paths (l ∷ found) [] p = absurd p
  row_paths (l ∷ found) (x ∷ row) p = λ i. p.0.path i ∷ row_paths found row p.1 i

  is_row : (found : List Looked) (row : List SeriesValue) → FoundOf s now need found → Pairwise (IsSeriesAt told s) found row → answer.IsRow told s now need row
  is_row found row f p = record {
    found = subst (λ (paths : List (List ℕ)). answer.FindsOf s now need paths) (sym (row_paths found row p)) (finds_of s now need found f);
    each = row_shown found row f.up.each p;
  }

module _ (told : ℕ → Option Image) (s : State) where
  rows_of : (now : ℕ) (needs : List Need) (sets : List (List Looked)) (rows : Rows) → Pairwise (FoundOf s now) needs sets → Pairwise (Pairwise (IsSeriesAt told s)) sets rows
      → answer.AreRowsOf told s now needs rows
  rows_of now [] [] [] f p = refl
  rows_of now [] [] (row ∷ rows) f p = absurd (cc p)
  rows_of now [] (set ∷ sets) rows f p = absurd (cc f)
  rows_of now (need ∷ needs) [] rows f p = absurd f
  rows_of now (need ∷ needs) (set ∷ sets) [] f p = absurd p
  rows_of now (need ∷ needs) (set ∷ sets) (row ∷ rows) f p = (is_row told s now need set row f.0 p.0, rows_of now needs sets rows f.1 p.1)

  row_length : (found : List Looked) (row : List SeriesValue) → Pairwise (IsSeriesAt told s) found row → length row ≡ length found
  row_length [] [] p = refl
  row_length [] (x ∷ row) p = absurd (cc p)
  row_length (l ∷ found) [] p = absurd p
  row_length (l ∷ found) (x ∷ row) p = ap suc (row_length found row p.1)

  rows_length : (sets : List (List Looked)) (rows : Rows) → Pairwise (Pairwise (IsSeriesAt told s)) sets rows → length (concat rows) ≡ all_series sets
  unfolding all_series
  rows_length [] [] p = refl
  rows_length [] (row ∷ rows) p = absurd (cc p)
  rows_length (set ∷ sets) [] p = absurd p
  rows_length (set ∷ sets) (row ∷ rows) p =
      length-append row (concat rows) ∙ ((λ i. row_length set row p.0 i + rows_length sets rows p.1 i) ∙ sym (sum_by-cons length set sets))

  row_points : (found : List Looked) (row : List SeriesValue) → Pairwise (IsSeriesAt told s) found row → answer.points_of row ≡ set_buckets found
  unfolding set_buckets
  row_points [] [] p = refl
  row_points [] (x ∷ row) p = absurd (cc p)
  row_points (l ∷ found) [] p = absurd p
  row_points (l ∷ found) (x ∷ row) p = (λ i. p.0.count i + row_points found row p.1 i) ∙ sym (sum_by-cons buckets_of l found)

  points_append : (row more : List SeriesValue) → answer.points_of (row ++ more) ≡ answer.points_of row + answer.points_of more
  points_append [] more = omega arith
  points_append (x ∷ row) more = omega (arith, points_append row more)

  rows_points : (sets : List (List Looked)) (rows : Rows) → Pairwise (Pairwise (IsSeriesAt told s)) sets rows → answer.points_of (concat rows) ≡ all_buckets sets
  unfolding all_buckets
  rows_points [] [] p = refl
  rows_points [] (row ∷ rows) p = absurd (cc p)
  rows_points (set ∷ sets) [] p = absurd p
  rows_points (set ∷ sets) (row ∷ rows) p =
      points_append row (concat rows) ∙ ((λ i. row_points set row p.0 i + rows_points sets rows p.1 i) ∙ sym (sum_by-cons set_buckets set sets))

  rows_early : (sets : List (List Looked)) (rows : Rows) → Pairwise (Pairwise (IsSeriesAt told s)) sets rows → All (IsEarly latest_row_end) (concat rows)
  rows_early [] [] p = All-nil (IsEarly latest_row_end)
  rows_early [] (row ∷ rows) p = absurd (cc p)
  rows_early (set ∷ sets) [] p = absurd p
  rows_early (set ∷ sets) (row ∷ rows) p =
      All-append (IsEarly latest_row_end) row (concat rows) (pairwise_right (IsSeriesAt told s) (IsEarly latest_row_end) (λ looked x at. at.early) set row p.0) (rows_early sets rows p.1)

  pub has_rows : (now : ℕ) (needs : List Need) (sets : List (List Looked)) (rows : Rows) → Pairwise (FoundOf s now) needs sets → all_series sets ≤ most_series
      → all_buckets sets ≤ answer.most_points → Pairwise (Pairwise (IsSeriesAt told s)) sets rows → answer.HasRows told s now needs rows
  has_rows now needs sets rows f few short p = record {
    are = rows_of now needs sets rows f p;
    few = at_most (length (concat rows)) (all_series sets) most_series (rows_length sets rows p) few;
    short = at_most (answer.points_of (concat rows)) (all_buckets sets) answer.most_points (rows_points sets rows p) short;
  }

  pub are_rows : (sets : List (List Looked)) (rows : Rows) → all_series sets ≤ most_series → Pairwise (Pairwise (IsSeriesAt told s)) sets rows → AreRows rows
  are_rows sets rows few p = record {
    few = at_most (length (concat rows)) (all_series sets) most_series (rows_length sets rows p) few;
    early = rows_early sets rows p;
  }
