-- Known paths from one on.
use Rattle.std.proofs.Common.{◌≡◌, ◌≢◌, ◌∙◌, ℕ, true, false, Less, Bool, cond, List, [], ◌∷◌, ◌++◌, get_or, All, subst, refl, sym, ap}
use Rattle.std.specs.BTreeMap.Comparable.{le_lt_trans}
use Rattle.std.specs.BTreeMap.Range.{entries_between, range_contains}
use Rattle.std.specs.declared.ops.Bound.TheVariants.{Included, Unbounded}
use Rattle.std.specs.List.{AllByRecursion, filter}
use Rattle.std.specs.List.Sorted.{IsStrictlySortedBy}
use Rattle.std.specs.Option.{IsSome}
use Rattle.std.proofs.lemmas.Cmp.{nat_list_cmp_total, tied_itself}
use Rattle.std.proofs.lemmas.List.Elements.{All-cons, All-contains_itself, All-head, All-nil, All-tail}
use mathlib.Core.List.{IsPrefix}
use Rattle.metric_index.specs.Index.{entry_of, paths_of}
use Rattle.metric_index.specs.Searched.{AreKnown, IsPieceFrom}
use Rattle.metric_index.proofs.FindLemmas.{all_in_range, first_part, known_of, part_rising}
use Rattle.metric_index.proofs.IndexLemmas.{order}

-- ---- the first of some paths

front_all : (P : List ℕ → Type 0) (xs rest : List (List ℕ)) → All P (xs ++ rest) → All P xs
front_all P [] rest all = All-nil P
front_all P (x ∷ xs) rest all = All-cons P x xs (All-head P x (xs ++ rest) all) (front_all P xs rest (All-tail P x (xs ++ rest) all))

front_below : (P : List ℕ → Type 0) (xs rest : List (List ℕ)) → AllByRecursion P (xs ++ rest) → AllByRecursion P xs
front_below P [] rest all = tt
front_below P (x ∷ xs) rest all = (all.0, front_below P xs rest all.1)

front_rising : (xs rest : List (List ℕ)) → IsStrictlySortedBy order (xs ++ rest) → IsStrictlySortedBy order xs
unfolding IsStrictlySortedBy
front_rising [] rest rising = tt
front_rising (x ∷ xs) rest rising = (front_below (λ p. order x p ≡ Less) xs rest rising.0, front_rising xs rest rising.1)

-- ---- those of a range

kept_by : {V : Type 0} (P : List ℕ → Type 0) (test : List ℕ × V → Bool) (e : List ℕ × V) (es : List (List ℕ × V)) (within : Bool) → P e.0 → All P (paths_of (filter test es))
    → All P (paths_of (cond within (e ∷ filter test es) (filter test es)))
kept_by P test e es true here others = All-cons P e.0 (paths_of (filter test es)) here others
kept_by P test e es false here others = others

kept_in_range : {V : Type 0} (P : List ℕ → Type 0) (test : List ℕ × V → Bool) (es : List (List ℕ × V)) → All P (paths_of es) → All P (paths_of (filter test es))
kept_in_range P test [] all = All-nil P
kept_in_range P test (e ∷ es) all = kept_by P test e es (test e) (All-head P e.0 (paths_of es) all) (kept_in_range P test es (All-tail P e.0 (paths_of es) all))

not_below : (least path : List ℕ) → range_contains order (Included least) Unbounded path ≡ true → order path least ≢ Less
not_below least path within below = absurd (let e = sym (tied_itself nat_list_cmp_total least) ∙ le_lt_trans nat_list_cmp_total least path least (first_part _ _ within) below in cc)

all_known : {V : Type 0} (es : List (List ℕ × V)) → AreKnown es (paths_of es)
all_known es = λ k d less. known_of es (get_or (paths_of es) k d) (All-contains_itself (paths_of es) k d less)

pub piece_from : {V : Type 0} (index es part : List (List ℕ × V)) (least : List ℕ) (paths : List (List ℕ)) → es ≡ index → part ≡ entries_between order (Included least) Unbounded es
    → IsStrictlySortedBy order (paths_of es) → IsPrefix paths (paths_of part) → IsPieceFrom index least paths
piece_from {V} index es part least paths same is rising front =
    let whole : paths_of part ≡ paths ++ front.0 = sym front.1 in
    let known : All (λ path. IsSome (entry_of es path)) (paths_of part) =
    subst (λ (l : List (List ℕ × V)). All (λ path. IsSome (entry_of es path)) (paths_of l)) (sym is)
    (kept_in_range (λ path. IsSome (entry_of es path)) (λ e. range_contains order (Included least) Unbounded e.0) es (all_known es)) in
    let behind : All (λ path. order path least ≢ Less) (paths_of part) =
    subst (λ (l : List (List ℕ × V)). All (λ path. order path least ≢ Less) (paths_of l)) (sym is)
    (all_in_range (λ path. order path least ≢ Less) (range_contains order (Included least) Unbounded) es (not_below least)) in
    record {
      known = subst (λ (l : List (List ℕ × V)). AreKnown l paths) same
          (front_all (λ path. IsSome (entry_of es path)) paths front.0 (subst (All (λ path. IsSome (entry_of es path))) whole known));
      rising = front_rising paths front.0 (subst (IsStrictlySortedBy order) whole (part_rising (Included least) Unbounded es part is rising));
      behind = front_all (λ path. order path least ≢ Less) paths front.0 (subst (All (λ path. order path least ≢ Less)) whole behind);
    }
