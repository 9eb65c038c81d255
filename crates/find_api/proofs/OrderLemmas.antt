-- What is found, in order and each once.
use Rattle.std.proofs.Common.{Ordering, Less, Equal, Greater, ◌≡◌, ℕ, inr, ⊎_elim, Bool, true, false, ◌&&◌, List, [], ◌∷◌, ◌++◌, map, Contains, refl, sym, ap, ap₂, ◌∙◌, subst, arith, rules}
use Rattle.std.specs.Cmp.Rules.{comparing}
use Rattle.std.specs.Cmp.{IsEquivalence, IsTotalOrder}
use Rattle.std.specs.List.{dedup}
use Rattle.std.specs.List.Sorted.{IsPermutation, IsSorted, IsStrictlySortedBy}
use Rattle.std.specs.Cmp.Lexicographic.{slice_cmp}
use Rattle.std.specs.Ordering.{bool_cmp, eq_by_cmp, is_eq, nat_cmp, ordering_then}
use Rattle.std.specs.Str.{bytes_eq}
use Rattle.std.proofs.Math.Bool.{beq}
use Rattle.std.proofs.lemmas.Slice.Eq.{bytes_eq-Decides}
use Rattle.std.proofs.lemmas.List.Elements.{Contains-append_cases, Contains-append_left, Contains-append_right, Contains-push, Contains-push_cases}
use Rattle.std.proofs.lemmas.List.Kept.{Contains-dedup, Contains-from_dedup, IsStrictlySortedBy-dedup}
use Rattle.std.proofs.lemmas.Map.Lookups.{exact_bytes}
use Rattle.path_glob.specs.Faults.{Said}
use Rattle.find_api.specs.Nodes.{Expands, Finds, IsFound, node_order}
use Rattle.find_api.specs.Runs.{AddsFound}
use Rattle.find_api.specs.declared.node.Node.{Node}
use Rattle.find_api.proofs.FindLemmas.{contains_cases, contains_first}
use Rattle.std.proofs.lemmas.List.Sorted.{Contains-permutation, IsPermutation-sym}

-- The same elements in order and each once, after a sort and without neighbours that are the same.
module _ {X : Type 0} {R : X → X → Ordering} (total : IsTotalOrder R) {E : X → X → Bool} (equiv : IsEquivalence E) (ties : (x y : X) → E x y ≡ eq_by_cmp R x y) (exact : (x y : X) → E x y ≡ true → x ≡ y)
    (old sorted new : List X) (moved : IsPermutation old sorted) (in_order : IsSorted R sorted) (once : new ≡ dedup E sorted) where
  pub once_in_order : IsStrictlySortedBy R new
  once_in_order = subst (IsStrictlySortedBy R) (sym once) (IsStrictlySortedBy-dedup total ties sorted in_order)

  pub once_kept : (x : X) → Contains old x → Contains new x
  once_kept x within = subst (λ (l : List X). Contains l x) (sym once) (Contains-dedup equiv exact sorted x (Contains-permutation old sorted x moved within))

  pub once_from : (x : X) → Contains new x → Contains old x
  once_from x within =
      Contains-permutation sorted old x (IsPermutation-sym old sorted moved) (Contains-from_dedup E sorted x (subst (λ (l : List X). Contains l x) once within))

-- ---- nodes

pub node_total : IsTotalOrder node_order
node_total = search (comparing, rules) depth 9

both_equal : (a b : Ordering) → ordering_then a b ≡ Equal → (a ≡ Equal) × (b ≡ Equal)
both_equal Less b e = absurd cc
both_equal Equal b e = (refl, e)
both_equal Greater b e = absurd cc

same_kind : (a b : Bool) → bool_cmp a b ≡ Equal → a ≡ b
same_kind true true e = refl
same_kind true false e = absurd cc
same_kind false true e = absurd cc
same_kind false false e = refl

pub same_node : (a b : Node) → node_order a b ≡ Equal → a ≡ b
same_node a b e =
    let both = both_equal (slice_cmp nat_cmp a.path b.path) (bool_cmp a.is_leaf b.is_leaf) e in
    ap₂ (λ (leaf : Bool) (path : List ℕ). record { path = path; is_leaf = leaf }) (same_kind a.is_leaf b.is_leaf both.1) (exact_bytes a.path b.path both.0)

pub node_equiv : IsEquivalence (λ (a : Node) (b : Node). bytes_eq a.path b.path && beq a.is_leaf b.is_leaf)
node_equiv = search (comparing, rules) depth 9

pub node_ties : (a b : Node) → (bytes_eq a.path b.path && beq a.is_leaf b.is_leaf) ≡ eq_by_cmp node_order a b
node_ties = search (comparing, rules) depth 9

equal_by : (o : Ordering) → is_eq o ≡ true → o ≡ Equal
equal_by Less e = absurd cc
equal_by Equal e = refl
equal_by Greater e = absurd cc

pub node_exact : (a b : Node) → (bytes_eq a.path b.path && beq a.is_leaf b.is_leaf) ≡ true → a ≡ b
node_exact a b e = same_node a b (equal_by (node_order a b) (sym (node_ties a b) ∙ e))

pub path_equiv : IsEquivalence bytes_eq
path_equiv = search (comparing, rules) depth 9

pub path_ties : (a b : List ℕ) → bytes_eq a b ≡ eq_by_cmp (slice_cmp nat_cmp) a b
path_ties = search (comparing, rules) depth 9

pub path_exact : (a b : List ℕ) → bytes_eq a b ≡ true → a ≡ b
path_exact a b e = (bytes_eq-Decides a b).0 e

nothing : {X : Type 0} {x : X} → Contains [] x → ⊥
nothing (k, within, is) = absurd (omega (arith, within))

pub finds_from : (glob : Said) (names : List (List ℕ)) (found nodes : List Node) → AddsFound glob names [] found → IsStrictlySortedBy node_order nodes → ((node : Node) → Contains found node → Contains nodes node)
    → ((node : Node) → Contains nodes node → Contains found node) → Finds glob names nodes
finds_from glob names found nodes adds in_order kept from = record {
  in_order = in_order;
  found = λ node. (
    λ within. ⊎_elim (λ none. absurd (nothing none)) (λ it. it) ((adds node).0 (from node within)),
    λ it. kept node ((adds node).1 (inr it)),
  );
}

-- ---- paths of several globs

path_of : (nodes : List Node) (path : List ℕ) → Contains (map (λ (node : Node). node.path) nodes) path → (node : Node) × Contains nodes node × (node.path ≡ path)
path_of [] path within = absurd (nothing within)
path_of (node ∷ nodes) path within =
    ⊎_elim (λ first. (node, contains_first node nodes, first))
    (λ later. let it = path_of nodes path later in (it.0, Contains-append_right (node ∷ []) nodes it.0 it.1, it.2)) (contains_cases node.path (map (λ (node : Node). node.path) nodes) path within)

of_path : (nodes : List Node) (node : Node) → Contains nodes node → Contains (map (λ (node : Node). node.path) nodes) node.path
of_path [] node within = absurd (nothing within)
of_path (first ∷ nodes) node within =
    ⊎_elim (λ same. subst (λ (path : List ℕ). Contains (map (λ (node : Node). node.path) (first ∷ nodes)) path) (ap (λ (x : Node). x.path) same) (contains_first first.path (map (λ (node : Node). node.path) nodes)))
    (λ later. Contains-append_right (first.path ∷ []) (map (λ (node : Node). node.path) nodes) node.path (of_path nodes node later)) (contains_cases first nodes node within)

pub expands_none : (names : List (List ℕ)) → Expands [] names []
unfolding IsStrictlySortedBy
expands_none names = record { in_order = tt; found = λ path. (λ within. absurd (nothing within), λ it. absurd (nothing it.1)) }

-- one more glob
pub expands_more : (globs : List Said) (glob : Said) (names old : List (List ℕ)) (nodes : List Node) (paths : List (List ℕ)) → Expands globs names old → Finds glob names nodes → IsStrictlySortedBy (slice_cmp nat_cmp) paths
    → ((path : List ℕ) → Contains (old ++ map (λ (node : Node). node.path) nodes) path → Contains paths path) → ((path : List ℕ) → Contains paths path → Contains (old ++ map (λ (node : Node). node.path) nodes) path) → Expands (globs ++ glob ∷ []) names paths
expands_more globs glob names old nodes paths before finds in_order kept from = record {
  in_order = in_order;
  found = λ path. (
    λ within. ⊎_elim
        (λ known. let it = (before.found path).0 known in (it.0, Contains-append_left globs (glob ∷ []) it.0 it.1, it.2, it.3))
        (λ new. let it = path_of nodes path new in
        (glob, Contains-push globs glob, it.0.is_leaf, subst (λ (p : List ℕ). IsFound glob names it.0.is_leaf p) it.2 ((finds.found it.0).0 it.1)))
        (Contains-append_cases old (map (λ (node : Node). node.path) nodes) path (from path within)),
    λ it. kept path (⊎_elim
        (λ known. Contains-append_left old (map (λ (node : Node). node.path) nodes) path ((before.found path).1 (it.0, known, it.2, it.3)))
        (λ same. Contains-append_right old (map (λ (node : Node). node.path) nodes) path
        (of_path nodes (record { path = path; is_leaf = it.2 }) ((finds.found (record { path = path; is_leaf = it.2 })).1 (subst (λ (g : Said). IsFound g names it.2 path) (sym same) it.3))))
        (Contains-push_cases globs glob it.0 it.1)),
  );
}
