-- What is found among the entries of a range, and of all.
use Rattle.std.proofs.Common.{Ordering, Less, Equal, Greater, ◌≡◌, ◌≢◌, ℕ, Bool, true, false, cond, ◌&&◌, inl, inr, List, [], ◌∷◌, get_or, All, Contains, Option, Some, None, subst, refl, sym, ap, ◌∙◌, arith, append-nil}
use Rattle.std.specs.BTreeMap.Comparable.{le_lt_trans}
use Rattle.std.specs.BTreeMap.Range.{entries_between, range_contains}
use Rattle.std.specs.declared.ops.Bound.{Bound}
use Rattle.std.specs.declared.ops.Bound.TheVariants.{Included, Unbounded}
use Rattle.std.specs.List.{AllByRecursion, filter}
use Rattle.std.specs.List.Sorted.{IsStrictlySortedBy}
use Rattle.std.specs.Option.{IsSome}
use Rattle.std.specs.Ordering.{is_le, ordering_reverse}
use Rattle.std.specs.Str.{bytes_eq}
use Rattle.std.proofs.lemmas.Cmp.{eq_by_cmp_equiv, nat_list_cmp_total, tied_itself}
use Rattle.std.proofs.lemmas.List.Elements.{All-cons, All-contains_itself, All-head, All-nil, All-tail}
use Rattle.std.proofs.lemmas.Map.Keys.{IsDistinct-from_sorted, sorted_head, sorted_tail}
use Rattle.std.proofs.lemmas.Map.Lookups.{exact_bytes}
use Rattle.std.proofs.lemmas.Map.Views.{Contains-keys_from_lookup, IsSome-lookup_from_Contains, lookup-from_Contains, tells_apart}
use Rattle.std.proofs.lemmas.Slice.Eq.{bytes_eq-Decides}
use Rattle.metric_path.specs.Path.{path_fault}
use Rattle.path_glob.specs.Laws.{BeginsWith}
use Rattle.metric_index.specs.Found.{Finds, IsLeastPath, Picks}
use Rattle.metric_index.specs.Index.{entry_of, paths_of}
use Rattle.metric_index.proofs.FrontLemmas.{front_not_below}
use Rattle.metric_index.proofs.IndexLemmas.{by_bytes, order}

-- ---- picked entries

module _ {V : Type 0} (fits : List ℕ → Type 0) where
  picked_below : (P : List ℕ → Type 0) (es hits : List (List ℕ × V)) → Picks fits es hits → AllByRecursion P (paths_of es) → AllByRecursion P (paths_of hits)
  picked_below P [] hits picks below = subst (λ (l : List (List ℕ × V)). AllByRecursion P (paths_of l)) (sym picks) tt
  picked_below P (e ∷ es) hits (inl (fit, rest, is, picks)) below =
      subst (λ (l : List (List ℕ × V)). AllByRecursion P (paths_of l)) (sym is) (below.0, picked_below P es rest picks below.1)
  picked_below P (e ∷ es) hits (inr (none, picks)) below = picked_below P es hits picks below.1

  picked_rising : (es hits : List (List ℕ × V)) → Picks fits es hits → IsStrictlySortedBy order (paths_of es) → IsStrictlySortedBy order (paths_of hits)
  unfolding IsStrictlySortedBy
  picked_rising [] hits picks rising = subst (λ (l : List (List ℕ × V)). IsStrictlySortedBy order (paths_of l)) (sym picks) tt
  picked_rising (e ∷ es) hits (inl (fit, rest, is, picks)) rising =
      subst (λ (l : List (List ℕ × V)). IsStrictlySortedBy order (paths_of l)) (sym is) (picked_below (λ path. order e.0 path ≡ Less) es rest picks rising.0, picked_rising es rest picks rising.1)
  picked_rising (e ∷ es) hits (inr (none, picks)) rising = picked_rising es hits picks rising.1

  pub never_none : (o : Option V) → o ≡ None → IsSome o → ⊥
  never_none None is some = absurd cc
  never_none (Some v) is some = absurd cc

  -- what is picked fits
  some_fits : (path : List ℕ) (e : List ℕ × V) (rest : List (List ℕ × V)) (same : Bool) → bytes_eq path e.0 ≡ same → fits e.0 → (IsSome (entry_of rest path) → fits path) → IsSome (entry_of (e ∷ rest) path) → fits path
  some_fits path e rest true is fit others some = subst fits (sym ((bytes_eq-Decides path e.0).0 is)) fit
  some_fits path e rest false is fit others some =
      others (subst (λ (t : Bool). IsSome (cond t (Some e.1) (entry_of rest path))) is some)

  picked_fits : (es hits : List (List ℕ × V)) (path : List ℕ) → Picks fits es hits → IsSome (entry_of hits path) → fits path
  picked_fits [] hits path picks some = absurd (never_none (entry_of hits path) (ap (λ (l : List (List ℕ × V)). entry_of l path) picks) some)
  picked_fits (e ∷ es) hits path (inl (fit, rest, is, picks)) some =
      some_fits path e rest (bytes_eq path e.0) refl fit (picked_fits es rest path picks) (subst (λ (l : List (List ℕ × V)). IsSome (entry_of l path)) is some)
  picked_fits (e ∷ es) hits path (inr (none, picks)) some = picked_fits es hits path picks some

  -- a path that fits has the entry that it had
  not_this : (path : List ℕ) (e : List ℕ × V) (same : Bool) → bytes_eq path e.0 ≡ same → (fits e.0 → ⊥) → fits path → bytes_eq path e.0 ≡ false
  not_this path e true is none fit = absurd (none (subst fits ((bytes_eq-Decides path e.0).0 is) fit))
  not_this path e false is none fit = is

  picked_entry : (es hits : List (List ℕ × V)) (path : List ℕ) → Picks fits es hits → fits path → entry_of hits path ≡ entry_of es path
  picked_entry [] hits path picks fit = ap (λ (l : List (List ℕ × V)). entry_of l path) picks
  picked_entry (e ∷ es) hits path (inl (fit', rest, is, picks)) fit =
      ap (λ (l : List (List ℕ × V)). entry_of l path) is ∙ ap (λ (o : Option V). cond (bytes_eq path e.0) (Some e.1) o) (picked_entry es rest path picks fit)
  picked_entry (e ∷ es) hits path (inr (none, picks)) fit =
      picked_entry es hits path picks fit ∙ sym (ap (λ (t : Bool). cond t (Some e.1) (entry_of es path)) (not_this path e (bytes_eq path e.0) refl none fit))

-- ---- known paths

pub known_of : {V : Type 0} (es : List (List ℕ × V)) (path : List ℕ) → Contains (paths_of es) path → IsSome (entry_of es path)
known_of es path within = subst (λ (o : Option _). IsSome o) (by_bytes path es) (IsSome-lookup_from_Contains (eq_by_cmp_equiv nat_list_cmp_total) path es within)

pub of_known : {V : Type 0} (es : List (List ℕ × V)) (path : List ℕ) → IsSome (entry_of es path) → Contains (paths_of es) path
of_known es path known = Contains-keys_from_lookup (tells_apart exact_bytes) path es (subst (λ (o : Option _). IsSome o) (sym (by_bytes path es)) known)

pub own_entry : {V : Type 0} (es : List (List ℕ × V)) (e : List ℕ × V) → IsStrictlySortedBy order (paths_of es) → Contains es e → entry_of es e.0 ≡ Some e.1
own_entry es e rising within =
    sym (by_bytes e.0 es) ∙ lookup-from_Contains (eq_by_cmp_equiv nat_list_cmp_total) e.0 e.1 es (IsDistinct-from_sorted order (paths_of es) rising) within

finds_from_picks : {V : Type 0} (fits : List ℕ → Type 0) (es hits : List (List ℕ × V)) → IsStrictlySortedBy order (paths_of es) → Picks fits es hits → Finds es fits hits
finds_from_picks fits es hits rising picks = record {
  in_order = picked_rising fits es hits picks rising;
  found = λ path. (
    λ within. let known = known_of hits path within in
        let fit = picked_fits fits es hits path picks known in
        (fit, subst (λ (o : Option _). IsSome o) (picked_entry fits es hits path picks fit) known),
    λ both. of_known hits path (subst (λ (o : Option _). IsSome o) (sym (picked_entry fits es hits path picks both.0)) both.1),
  );
  entries = λ k d within.
      let hit = get_or hits k d in
      let inside : Contains hits hit = All-contains_itself hits k d within in
      let own = own_entry hits hit (picked_rising fits es hits picks rising) inside in
      let fit = picked_fits fits es hits hit.0 picks (subst (λ (o : Option _). IsSome o) (sym own) refl) in
      sym (picked_entry fits es hits hit.0 picks fit) ∙ own;
}

-- ---- a range of the entries

-- those outside a range do not fit
picked_by : {V : Type 0} (fits : List ℕ → Type 0) (test : List ℕ × V → Bool) (e : List ℕ × V) (es hits : List (List ℕ × V)) (within : Bool) → test e ≡ within → (fits e.0 → test e ≡ true)
    → ((left : List (List ℕ × V)) → Picks fits (filter test es) left → Picks fits es left) → Picks fits (cond within (e ∷ filter test es) (filter test es)) hits → Picks fits (e ∷ es) hits
picked_by fits test e es hits true is inside others (inl (fit, rest, same, picks)) = inl (fit, rest, same, others rest picks)
picked_by fits test e es hits true is inside others (inr (none, picks)) = inr (none, others hits picks)
picked_by fits test e es hits false is inside others picks = inr (λ fit. absurd (let e = sym is ∙ inside fit in cc), others hits picks)

picked_in_range : {V : Type 0} (fits : List ℕ → Type 0) (test : List ℕ → Bool) (es hits : List (List ℕ × V)) → All (λ path. fits path → test path ≡ true) (paths_of es) → Picks fits (filter (λ e. test e.0) es) hits → Picks fits es hits
picked_in_range fits test [] hits inside picks = picks
picked_in_range fits test (e ∷ es) hits inside picks =
    picked_by fits (λ x. test x.0) e es hits (test e.0) refl (All-head (λ path. fits path → test path ≡ true) e.0 (paths_of es) inside)
    (λ left more. picked_in_range fits test es left (All-tail (λ path. fits path → test path ≡ true) e.0 (paths_of es) inside) more) picks

-- what holds of all paths holds of those in a range
kept_by : {V : Type 0} (P : List ℕ → Type 0) (test : List ℕ × V → Bool) (e : List ℕ × V) (es : List (List ℕ × V)) (within : Bool) → P e.0 → AllByRecursion P (paths_of (filter test es))
    → AllByRecursion P (paths_of (cond within (e ∷ filter test es) (filter test es)))
kept_by P test e es true first others = (first, others)
kept_by P test e es false first others = others

range_below : {V : Type 0} (P : List ℕ → Type 0) (test : List ℕ × V → Bool) (es : List (List ℕ × V)) → AllByRecursion P (paths_of es) → AllByRecursion P (paths_of (filter test es))
range_below P test [] all = tt
range_below P test (e ∷ es) all = kept_by P test e es (test e) all.0 (range_below P test es all.1)

rising_by : {V : Type 0} (test : List ℕ × V → Bool) (e : List ℕ × V) (es : List (List ℕ × V)) (within : Bool) → AllByRecursion (λ path. order e.0 path ≡ Less) (paths_of (filter test es)) → IsStrictlySortedBy order (paths_of (filter test es))
    → IsStrictlySortedBy order (paths_of (cond within (e ∷ filter test es) (filter test es)))
unfolding IsStrictlySortedBy
rising_by test e es true first others = (first, others)
rising_by test e es false first others = others

range_rising : {V : Type 0} (test : List ℕ × V → Bool) (es : List (List ℕ × V)) → IsStrictlySortedBy order (paths_of es) → IsStrictlySortedBy order (paths_of (filter test es))
range_rising test [] rising = rising
range_rising test (e ∷ es) rising =
    rising_by test e es (test e) (range_below (λ path. order e.0 path ≡ Less) test es (sorted_head order e.0 (paths_of es) rising)) (range_rising test es (sorted_tail order e.0 (paths_of es) rising))

all_by : {V : Type 0} (P : List ℕ → Type 0) (test : List ℕ → Bool) (e : List ℕ × V) (es : List (List ℕ × V)) (within : Bool) → test e.0 ≡ within → ((path : List ℕ) → test path ≡ true → P path) → All P (paths_of (filter (λ x. test x.0) es))
    → All P (paths_of (cond within (e ∷ filter (λ x. test x.0) es) (filter (λ x. test x.0) es)))
all_by P test e es true is given others = All-cons P e.0 (paths_of (filter (λ x. test x.0) es)) (given e.0 is) others
all_by P test e es false is given others = others

pub all_in_range : {V : Type 0} (P : List ℕ → Type 0) (test : List ℕ → Bool) (es : List (List ℕ × V)) → ((path : List ℕ) → test path ≡ true → P path) → All P (paths_of (filter (λ x. test x.0) es))
all_in_range P test [] given = All-nil P
all_in_range P test (e ∷ es) given = all_by P test e es (test e.0) refl given (all_in_range P test es given)

-- ---- ranges from the least path on

pub first_part : (t s : Bool) → (t && s) ≡ true → t ≡ true
first_part true s both = refl
first_part false s both = absurd cc

-- a text with a front is not below it
not_below_front : (front text : List ℕ) → BeginsWith front text → order text front ≢ Less
not_below_front front text begins below = front_not_below front begins.0 (sym (ap (λ (l : List ℕ). order l front) begins.1) ∙ below)

-- paths from the least one on are not below its front
range_from : {V : Type 0} (front least : List ℕ) (last : Bound (List ℕ)) (es : List (List ℕ × V)) → IsLeastPath front (Some least)
    → All (λ path. order path front ≢ Less) (paths_of (entries_between order (Included least) last es))
range_from front least last es is =
    all_in_range (λ path. order path front ≢ Less) (range_contains order (Included least) last) es
    (λ path within below. not_below_front front least is.0 (le_lt_trans nat_list_cmp_total least path front (first_part _ _ within) below))

not_above : (path least : List ℕ) (o : Ordering) → order path least ≡ o → o ≢ Less → is_le (order least path) ≡ true
not_above path least Less is above = absurd (above refl)
not_above path least Equal is above = ap is_le (nat_list_cmp_total.antisymm least path ∙ ap ordering_reverse is)
not_above path least Greater is above = ap is_le (nat_list_cmp_total.antisymm least path ∙ ap ordering_reverse is)

from_least : (front least path : List ℕ) → IsLeastPath front (Some least) → path_fault path ≡ None → BeginsWith front path → is_le (order least path) ≡ true
from_least front least path is legal begins = not_above path least (order path least) refl (is.1 path legal begins)

-- all that fit are in the range from the least path on
finds_from_least : {V : Type 0} (fits : List ℕ → Type 0) (front least : List ℕ) (es hits : List (List ℕ × V)) → IsLeastPath front (Some least) → ((path : List ℕ) → fits path → BeginsWith front path)
    → All (λ path. path_fault path ≡ None) (paths_of es) → IsStrictlySortedBy order (paths_of es) → Picks fits (entries_between order (Included least) Unbounded es) hits → Finds es fits hits
finds_from_least fits front least es hits is begins legal rising picks =
    finds_from_picks fits es hits rising (picked_in_range fits (range_contains order (Included least) Unbounded) es hits
    (λ k d within fit. rw (from_least front least (get_or (paths_of es) k d) is (legal k d within) (begins (get_or (paths_of es) k d) fit)) refl) picks)

-- where one path alone may fit, it is the least one
only_least : (front least path : List ℕ) → IsLeastPath front (Some least) → path_fault path ≡ None → path ≡ front → path ≡ least
only_least front least path is legal same =
    let le = from_least front least path is legal ([], same ∙ sym (append-nil front)) in
    equal_by (order least path) refl le (subst (λ (l : List ℕ). order least l ≢ Less) (sym same) (not_below_front front least is.0))
  where
    equal_by : (o : Ordering) → order least path ≡ o → is_le (order least path) ≡ true → order least path ≢ Less → path ≡ least
    equal_by Less is le above = absurd (above is)
    equal_by Equal is le above = sym (exact_bytes least path is)
    equal_by Greater is le above = absurd (let e = sym (ap is_le is) ∙ le in cc)

finds_only_least : {V : Type 0} (fits : List ℕ → Type 0) (front least : List ℕ) (es hits : List (List ℕ × V)) → IsLeastPath front (Some least)
    → ((path : List ℕ) → fits path → path ≡ front) → All (λ path. path_fault path ≡ None) (paths_of es) → IsStrictlySortedBy order (paths_of es)
    → Picks fits (entries_between order (Included least) (Included least) es) hits → Finds es fits hits
finds_only_least fits front least es hits is only legal rising picks =
    finds_from_picks fits es hits rising (picked_in_range fits (range_contains order (Included least) (Included least)) es hits
    (λ k d within fit.
    let same : get_or (paths_of es) k d ≡ least = only_least front least (get_or (paths_of es) k d) is (legal k d within) (only (get_or (paths_of es) k d) fit) in
    rw (same, tied_itself nat_list_cmp_total least) refl) picks)

-- no known path fits
legal_known : {V : Type 0} (es : List (List ℕ × V)) (path : List ℕ) → All (λ p. path_fault p ≡ None) (paths_of es) → IsSome (entry_of es path) → path_fault path ≡ None
legal_known es path legal known =
    let within = of_known es path known in subst (λ (p : List ℕ). path_fault p ≡ None) within.2 (legal within.0 path within.1)

pub finds_none : {V : Type 0} (fits : List ℕ → Type 0) (front : List ℕ) (es hits : List (List ℕ × V)) → hits ≡ [] → IsLeastPath front None → ((path : List ℕ) → fits path → BeginsWith front path)
    → All (λ path. path_fault path ≡ None) (paths_of es) → Finds es fits hits
unfolding IsStrictlySortedBy
finds_none {V} fits front es hits is none begins legal = subst (Finds es fits) (sym is) (record {
  in_order = tt;
  found = λ path. (λ within. absurd (omega (arith, within.1)), λ both. absurd (none path (legal_known es path legal both.1) (begins path both.0)));
  entries = All-nil _;
})

-- ---- in the words of the code

pub least_moved : (front front' : List ℕ) (o o' : Option (List ℕ)) → front ≡ front' → o ≡ o' → IsLeastPath front o → IsLeastPath front' o'
least_moved front front' o o' same same' is =
    subst (λ (f : List ℕ). IsLeastPath f o') same (subst (IsLeastPath front) same' is)

pub one_range : {V : Type 0} (start end least : List ℕ) (es part : List (List ℕ × V)) → start ≡ least → end ≡ least → part ≡ entries_between order (Included start) (Included end) es → part ≡ entries_between order (Included least) (Included least) es
one_range start end least es part same same' is =
    is ∙ ap (λ (l : List ℕ). entries_between order (Included l) (Included end) es) same ∙ ap (λ (l : List ℕ). entries_between order (Included least) (Included l) es) same'

pub part_rising : {V : Type 0} (low high : Bound (List ℕ)) (es part : List (List ℕ × V)) → part ≡ entries_between order low high es → IsStrictlySortedBy order (paths_of es) → IsStrictlySortedBy order (paths_of part)
part_rising {V} low high es part is rising =
    subst (λ (l : List (List ℕ × V)). IsStrictlySortedBy order (paths_of l)) (sym is) (range_rising (λ e. range_contains order low high e.0) es rising)

pub part_from : {V : Type 0} (front least : List ℕ) (high : Bound (List ℕ)) (es part : List (List ℕ × V)) → part ≡ entries_between order (Included least) high es → IsLeastPath front (Some least) → All (λ path. order path front ≢ Less) (paths_of part)
part_from {V} front least high es part is least_is =
    subst (λ (l : List (List ℕ × V)). All (λ path. order path front ≢ Less) (paths_of l)) (sym is) (range_from front least high es least_is)

pub part_from_least : {V : Type 0} (fits : List ℕ → Type 0) (front least : List ℕ) (index es part hits : List (List ℕ × V)) → es ≡ index → part ≡ entries_between order (Included least) Unbounded es → IsLeastPath front (Some least)
    → ((path : List ℕ) → fits path → BeginsWith front path) → All (λ path. path_fault path ≡ None) (paths_of es) → IsStrictlySortedBy order (paths_of es) → Picks fits part hits → Finds index fits hits
part_from_least {V} fits front least index es part hits same is least_is begins legal rising picks =
    subst (λ (l : List (List ℕ × V)). Finds l fits hits) same
    (finds_from_least fits front least es hits least_is begins legal rising (subst (λ (l : List (List ℕ × V)). Picks fits l hits) is picks))

pub part_only_least : {V : Type 0} (fits : List ℕ → Type 0) (front least : List ℕ) (index es part hits : List (List ℕ × V)) → es ≡ index → part ≡ entries_between order (Included least) (Included least) es → IsLeastPath front (Some least)
    → ((path : List ℕ) → fits path → path ≡ front) → All (λ path. path_fault path ≡ None) (paths_of es) → IsStrictlySortedBy order (paths_of es) → Picks fits part hits → Finds index fits hits
part_only_least {V} fits front least index es part hits same is least_is only legal rising picks =
    subst (λ (l : List (List ℕ × V)). Finds l fits hits) same
    (finds_only_least fits front least es hits least_is only legal rising (subst (λ (l : List (List ℕ × V)). Picks fits l hits) is picks))
