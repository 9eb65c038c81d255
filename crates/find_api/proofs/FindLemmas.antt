-- The walk over the names, and the nodes that it finds.
use Rattle.std.proofs.Common.{Less, ◌≡◌, ℕ, ◌+◌, ◌<◌, ◌≤◌, ◌⊎◌, inl, inr, ⊎_elim, Bool, true, false, List, [], ◌∷◌, ◌++◌, length, take, drop, All, Contains, Some, None, refl, sym, ap, ap₂, ◌∙◌, subst, arith, append_assoc, append-nil, length-append, length-drop, cond, get_or, eqb}
use Rattle.std.specs.List.{AllByRecursion}
use Rattle.std.specs.List.Sorted.{IsStrictlySortedBy}
use Rattle.std.proofs.lemmas.Bool.{eqb-false, eqb-true}
use Rattle.std.proofs.lemmas.List.{get_or-drop, length-take-le, take-append-drop}
use Rattle.std.proofs.Math.Seq.{take-append_seam}
use Rattle.std.proofs.lemmas.List.Splits.{length-slice_split}
use Rattle.std.proofs.lemmas.List.Sums.{count_by_more_no, count_by_more_yes}
use Rattle.std.proofs.lemmas.List.Elements.{All-contains, Contains-append_cases, Contains-append_left, Contains-append_right, Contains-push, Contains-push_cases}
use Rattle.std.proofs.lemmas.Map.Keys.{sorted_tail}
use Rattle.metric_path.specs.Path.{is_dot, nodes_of, path_fault}
use Rattle.path_glob.specs.Faults.{Said}
use Rattle.path_glob.specs.Glob.{Fits}
use Rattle.path_glob.specs.Laws.{BeginsWith}
use Rattle.find_api.specs.Nodes.{IsFound, Tells}
use Rattle.path_glob.specs.Fronts.{IsBehindRun, IsRun}
use Rattle.find_api.specs.Runs.{AddsFound, EndsNodes, IsBehindNode, IsEndOfNode, TellsAt}
use Rattle.find_api.specs.declared.node.Node.{Node}
use Rattle.find_api.proofs.NodeLemmas.{behind_dot, fits_count, front_is_legal, tells_few, tells_one}
use Rattle.path_glob.proofs.FrontLemmas.{order}

-- ---- where the nodes of a name end

-- a dot behind a front makes one node more, and another byte none
pub nodes_more : (name : List ℕ) (i : ℕ) (dot : Bool) → i < length name → is_dot (get_or name i 0) ≡ dot → length (nodes_of (take (i + 1) name)) ≡ length (nodes_of (take i name)) + cond dot 1 0
nodes_more name i true within is = omega (arith, length-slice_split is_dot (take (i + 1) name), length-slice_split is_dot (take i name), count_by_more_yes is_dot name i 0 within is)
nodes_more name i false within is = omega (arith, length-slice_split is_dot (take (i + 1) name), length-slice_split is_dot (take i name), count_by_more_no is_dot name i 0 within is)

dot_end : (rest : List ℕ) → get_or rest 0 0 ≡ 46 → 0 < length rest → IsEndOfNode rest
dot_end [] is some = tt
dot_end (b ∷ rest) is some = is

pub ends_at_dot : (count : ℕ) (name : List ℕ) (i : ℕ) → i < length name → get_or name i 0 ≡ 46 → length (nodes_of (take i name)) ≡ count → EndsNodes count name (Some i)
ends_at_dot count name i within dot as_many = (
  take i name,
  drop i name,
  sym (take-append-drop i name),
  length-take-le i name (omega (arith, within)),
  as_many,
  dot_end (drop i name) (get_or-drop i name 0 0 ∙ ap (λ (k : ℕ). get_or name k 0) (omega arith) ∙ dot) (omega (arith, within, length-drop i name)),
)

pub ends_at_end : (count : ℕ) (name : List ℕ) → length (nodes_of name) ≡ count → EndsNodes count name (Some (length name))
ends_at_end count name as_many = (name, [], sym (append-nil name), refl, as_many, tt)

pub none_told : (count : ℕ) (name : List ℕ) → EndsNodes count name None → TellsAt count name None
none_told count name few is_leaf path tells as_many = absurd (omega (arith, few, as_many, tells_few is_leaf path name tells))

front_of : (name front rest : List ℕ) (at : ℕ) → name ≡ front ++ rest → length front ≡ at → take at name ≡ front
front_of name front rest at is long = ap (λ (n : ℕ). take n name) (sym long) ∙ ap (take (length front)) is ∙ take-append_seam front rest

legal_by : (front rest : List ℕ) → IsEndOfNode rest → path_fault (front ++ rest) ≡ None → path_fault front ≡ None
legal_by front [] end legal = ap path_fault (sym (append-nil front)) ∙ legal
legal_by front (b ∷ rest) end legal = front_is_legal front rest (ap (λ (x : ℕ). path_fault (front ++ x ∷ rest)) (sym end) ∙ legal)

pub legal_end : (count : ℕ) (name : List ℕ) (at : ℕ) → EndsNodes count name (Some at) → path_fault name ≡ None → path_fault (take at name) ≡ None
legal_end count name at (front, rest, is, long, as_many, end) legal =
    ap path_fault (front_of name front rest at is long) ∙ legal_by front rest end (sym (ap path_fault is) ∙ legal)

pub end_within : (count : ℕ) (name : List ℕ) (at : ℕ) → EndsNodes count name (Some at) → at ≤ length name
end_within count name at (front, rest, is, long, as_many, end) = omega (arith, long, ap length is, length-append front rest)

tells_by : (front rest : List ℕ) (leaf : Bool) → IsEndOfNode rest → eqb (length front) (length (front ++ rest)) ≡ leaf → Tells leaf front (front ++ rest)
tells_by front [] true end is = append-nil front
tells_by front [] false end is = absurd (eqb-false (length front) (length (front ++ [])) is (sym (ap length (append-nil front))))
tells_by front (b ∷ rest) true end is = absurd (let e = eqb-true (length front) (length (front ++ b ∷ rest)) is in omega (arith, e, length-append front (b ∷ rest)))
tells_by front (b ∷ rest) false end is = (rest, ap (λ (x : ℕ). front ++ x ∷ rest) end ∙ sym (behind_dot front rest))

pub told_at : (count : ℕ) (name : List ℕ) (at : ℕ) → EndsNodes count name (Some at) → TellsAt count name (Some (record { path = take at name; is_leaf = eqb at (length name) }))
told_at count name at (front, rest, is, long, as_many, end) =
    let same = front_of name front rest at is long in
    rw (same, is, sym long) (tells_by front rest (eqb (length front) (length (front ++ rest))) end refl, as_many)

-- ---- branches

-- a branch and its dot, at the front of a name
pub branch_front : (path name : List ℕ) → Tells false path name → take (length path + 1) name ≡ path ++ 46 ∷ []
branch_front path name (rest, is) =
    front_of name (path ++ 46 ∷ []) rest (length path + 1) is (length-append path (46 ∷ []))

pub behind_branch : (node : Node) (front : List ℕ) (others rest : List (List ℕ)) → node.is_leaf ≡ false → front ≡ node.path ++ 46 ∷ [] → IsBehindRun front others rest → IsBehindNode node others rest
behind_branch node front others rest branch is (run, same, all) =
    (run, same, subst (λ (leaf : Bool). All (Tells leaf node.path) run) (sym branch) (subst (λ (f : List ℕ). All (BeginsWith f) run) is all))

pub empty : {X : Type 0} (xs : List X) → length xs ≡ 0 → xs ≡ []
empty [] none = refl
empty (x ∷ xs) none = absurd (omega (arith, none))

tail_rising : (run rest : List (List ℕ)) → IsStrictlySortedBy order (run ++ rest) → IsStrictlySortedBy order rest
tail_rising [] rest rising = rising
tail_rising (x ∷ run) rest rising = tail_rising run rest (sorted_tail order x (run ++ rest) rising)

front_all : (P : List ℕ → Type 0) (run rest : List (List ℕ)) → AllByRecursion P (run ++ rest) → AllByRecursion P run
front_all P [] rest all = tt
front_all P (x ∷ run) rest all = (all.0, front_all P run rest all.1)

front_rising : (run rest : List (List ℕ)) → IsStrictlySortedBy order (run ++ rest) → IsStrictlySortedBy order run
unfolding IsStrictlySortedBy
front_rising [] rest rising = tt
front_rising (x ∷ run) rest rising = (front_all (λ y. order x y ≡ Less) run rest rising.0, front_rising run rest rising.1)

pub run_rising : (front : List ℕ) (names run : List (List ℕ)) → IsStrictlySortedBy order names → IsRun front names run → IsStrictlySortedBy order run
run_rising front names run rising (before, after, is, none, none_after) =
    front_rising run after (tail_rising before (run ++ after) (subst (IsStrictlySortedBy order) is rising))

-- ---- nodes that a name tells, and names

-- the first, or one of the others
pub contains_first : {X : Type 0} (x : X) (xs : List X) → Contains (x ∷ xs) x
contains_first x xs = Contains-append_left (x ∷ []) xs x (Contains-push [] x)

pub contains_cases : {X : Type 0} (x : X) (xs : List X) (y : X) → Contains (x ∷ xs) y → (x ≡ y) ⊎ Contains xs y
contains_cases x xs y within = ⊎_elim (λ one. ⊎_elim (λ none. absurd (no_element none)) inl (Contains-push_cases [] x y one)) inr (Contains-append_cases (x ∷ []) xs y within)
  where
    no_element : Contains [] y → ⊥
    no_element (k, within, is) = absurd (omega (arith, within))

abbrev FoundIn : Said → List (List ℕ) → Node → Type 0
FoundIn glob names node = IsFound glob names node.is_leaf node.path

found_more : (glob : Said) (some names : List (List ℕ)) (node : Node) → ((name : List ℕ) → Contains some name → Contains names name) → FoundIn glob some node → FoundIn glob names node
found_more glob some names node more (fits, (name, within, tells)) = (fits, (name, more name within, tells))

-- what a fitted node is told by begins with the glob's front
told_begins : (front path name : List ℕ) (is_leaf : Bool) → BeginsWith front path → Tells is_leaf path name → BeginsWith front name
told_begins front path name true (rest, is) tells = (rest, tells ∙ is)
told_begins front path name false (rest, is) (more, goes) =
    (rest ++ 46 ∷ more, goes ∙ behind_dot path more ∙ ap (λ (l : List ℕ). l ++ 46 ∷ more) is ∙ append_assoc front rest (46 ∷ more))

-- what is known on the way: the names that are left, and the nodes that were found
pub record Walks (glob : Said) (names : List (List ℕ)) (old : List Node) (left : List (List ℕ)) (nodes : List Node) : Type 0 where
  pub rising : IsStrictlySortedBy order left
  pub here : (node : Node) → (Contains nodes node ⊎ FoundIn glob left node) → (Contains old node ⊎ FoundIn glob names node)
  pub back : (node : Node) → (Contains old node ⊎ FoundIn glob names node) → (Contains nodes node ⊎ FoundIn glob left node)

module _ (glob : Said) (names : List (List ℕ)) (old : List Node) where
  in_run : (front : List ℕ) (run : List (List ℕ)) (node : Node) → ((path : List ℕ) → Fits glob.nodes (nodes_of path) → BeginsWith front path) → IsRun front names run → FoundIn glob names node → FoundIn glob run node
  in_run front run node begins (before, after, is, none, none_after) (fits, (name, within, tells)) =
      let front_is = told_begins front node.path name node.is_leaf (begins node.path fits) tells in
      let inside : Contains run name =
      ⊎_elim (λ first. absurd (All-contains (λ x. BeginsWith front x → ⊥) before name none first front_is))
      (λ others. ⊎_elim (λ it. it) (λ last. absurd (All-contains (λ x. BeginsWith front x → ⊥) after name none_after last front_is)) (Contains-append_cases run after name others))
      (Contains-append_cases before (run ++ after) name (subst (λ (l : List (List ℕ)). Contains l name) is within)) in
      (fits, (name, inside, tells))

  run_in : (front : List ℕ) (run : List (List ℕ)) (name : List ℕ) → IsRun front names run → Contains run name → Contains names name
  run_in front run name (before, after, is, none, none_after) within =
      subst (λ (l : List (List ℕ)). Contains l name) (sym is) (Contains-append_right before (run ++ after) name (Contains-append_left run after name within))

  -- the walk begins with the names that begin with the glob's front
  pub walk_starts : (front : List ℕ) (run : List (List ℕ)) → ((path : List ℕ) → Fits glob.nodes (nodes_of path) → BeginsWith front path) → IsStrictlySortedBy order run → IsRun front names run → Walks glob names old run old
  walk_starts front run begins rising is = record {
    rising = rising;
    here = λ node. ⊎_elim inl (λ found. inr (found_more glob run names node (λ name. run_in front run name is) found));
    back = λ node. ⊎_elim inl (λ found. inr (in_run front run node begins is found));
  }

  -- and ends where none is left
  pub walk_ends : (left : List (List ℕ)) (nodes : List Node) → left ≡ [] → Walks glob names old left nodes → AddsFound glob names old nodes
  walk_ends left nodes none walks node = (
    λ within. walks.here node (inl within),
    λ found. ⊎_elim (λ it. it) (λ left_in. absurd (nothing (subst (λ (l : List (List ℕ)). Contains l left_in.1.0) none left_in.1.1))) (walks.back node found),
  )
    where
      nothing : {name : List ℕ} → Contains [] name → ⊥
      nothing (k, within, is) = absurd (omega (arith, within))

  module _ (name : List ℕ) (others : List (List ℕ)) (nodes : List Node) (walks : Walks glob names old (name ∷ others) nodes) where
    -- the next name has too few nodes
    pub walk_passes : (count : ℕ) → count ≡ length glob.nodes → TellsAt count name None → Walks glob names old others nodes
    walk_passes count counts few = record {
      rising = sorted_tail order name others walks.rising;
      here = λ node. ⊎_elim (λ within. walks.here node (inl within)) (λ found. walks.here node (inr (found_more glob others (name ∷ others) node (λ x. Contains-append_right (name ∷ []) others x) found)));
      back = λ node known. ⊎_elim inl (λ found. inr (later node found)) (walks.back node known);
    }
      where
        later : (node : Node) → FoundIn glob (name ∷ others) node → FoundIn glob others node
        later node (fits, (told, within, tells)) = (
          fits,
          (
            told,
            ⊎_elim (λ first. absurd (few node.is_leaf node.path (subst (λ x. Tells node.is_leaf node.path x) (sym first) tells) (sym (counts ∙ fits_count glob.nodes (nodes_of node.path) fits))))
                (λ it. it) (contains_cases name others told within),
            tells,
          ),
        )

    -- the node that the next name tells is the only one, and the names that tell it too are passed over
    only_this : (count : ℕ) (this node : Node) → count ≡ length glob.nodes → (told : List ℕ) → Fits glob.nodes (nodes_of node.path) → Tells node.is_leaf node.path told → Tells this.is_leaf this.path told → length (nodes_of this.path) ≡ count
        → this ≡ node
    only_this count this node counts told fits tells tells_this as_many =
        let same = tells_one this.is_leaf this.path node.is_leaf node.path told tells_this tells (as_many ∙ counts ∙ fits_count glob.nodes (nodes_of node.path) fits) in
        ap₂ (λ (leaf : Bool) (path : List ℕ). record { path = path; is_leaf = leaf }) same.0 same.1

    left_by : (count : ℕ) (this node : Node) (rest : List (List ℕ)) → count ≡ length glob.nodes → TellsAt count name (Some this) → IsBehindNode this others rest → FoundIn glob (name ∷ others) node
        → (this ≡ node) ⊎ FoundIn glob rest node
    left_by count this node rest counts (tells_this, as_many) (run, is, all) (fits, (told, within, tells)) =
        ⊎_elim (λ first. inl (only_this count this node counts name fits (subst (λ x. Tells node.is_leaf node.path x) (sym first) tells) tells_this as_many))
        (λ later. ⊎_elim (λ passed. inl (only_this count this node counts told fits tells (All-contains (Tells this.is_leaf this.path) run told all passed) as_many))
        (λ left. inr (fits, (told, left, tells)))
        (Contains-append_cases run rest told (subst (λ (l : List (List ℕ)). Contains l told) is later)))
        (contains_cases name others told within)

    rest_in : (this : Node) (rest : List (List ℕ)) (told : List ℕ) → IsBehindNode this others rest → Contains rest told → Contains (name ∷ others) told
    rest_in this rest told (run, is, all) within =
        Contains-append_right (name ∷ []) others told (subst (λ (l : List (List ℕ)). Contains l told) (sym is) (Contains-append_right run rest told within))

    rest_rising : (this : Node) (rest : List (List ℕ)) → IsBehindNode this others rest → IsStrictlySortedBy order rest
    rest_rising this rest (run, is, all) =
        tail_rising run rest (subst (IsStrictlySortedBy order) is (sorted_tail order name others walks.rising))

    pub walk_finds : (count : ℕ) (this : Node) (rest : List (List ℕ)) → count ≡ length glob.nodes → TellsAt count name (Some this) → IsBehindNode this others rest → Fits glob.nodes (nodes_of this.path) → Walks glob names old rest (nodes ++ this ∷ [])
    walk_finds count this rest counts told behind fits = record {
      rising = rest_rising this rest behind;
      here = λ node. ⊎_elim
          (λ within. ⊎_elim (λ before. walks.here node (inl before)) (λ same. walks.here node (inr (subst (FoundIn glob (name ∷ others)) same (fits, (name, contains_first name others, told.0))))) (Contains-push_cases nodes this node within))
          (λ found. walks.here node (inr (found_more glob rest (name ∷ others) node (λ x. rest_in this rest x behind) found)));
      back = λ node known. ⊎_elim (λ before. inl (Contains-append_left nodes (this ∷ []) node before))
          (λ found. ⊎_elim (λ same. inl (subst (Contains (nodes ++ this ∷ [])) same (Contains-push nodes this))) inr (left_by count this node rest counts told behind found)) (walks.back node known);
    }

    pub walk_skips : (count : ℕ) (this : Node) (rest : List (List ℕ)) → count ≡ length glob.nodes → TellsAt count name (Some this) → IsBehindNode this others rest → (Fits glob.nodes (nodes_of this.path) → ⊥) → Walks glob names old rest nodes
    walk_skips count this rest counts told behind none = record {
      rising = rest_rising this rest behind;
      here = λ node. ⊎_elim (λ within. walks.here node (inl within))
          (λ found. walks.here node (inr (found_more glob rest (name ∷ others) node (λ x. rest_in this rest x behind) found)));
      back = λ node known. ⊎_elim inl
          (λ found. ⊎_elim (λ same. absurd (none (subst (λ (x : Node). Fits glob.nodes (nodes_of x.path)) (sym same) found.0))) inr (left_by count this node rest counts told behind found)) (walks.back node known);
    }
