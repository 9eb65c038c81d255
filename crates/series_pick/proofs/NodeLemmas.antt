-- Nodes of paths.
use Rattle.std.proofs.Common.{◌≡◌, ℕ, ◌+◌, ◌<◌, Option, Some, None, get_or, length, take, filter_map, List, [], ◌∷◌, ◌++◌, map, reverse, slice_get, flat_map, option_map, refl, sym, ap, ◌∙◌}
use Rattle.std.specs.List.{cons_option, join_by}
use Rattle.std.proofs.lemmas.List.{append_assoc, append-nil, map-append, reverse-append, take_more}
use Rattle.std.proofs.lemmas.List.Concat.{flat_map-append}
use Rattle.std.proofs.lemmas.List.Elements.{filter_map-append}
use Rattle.std.proofs.lemmas.Option.{slice_get-map}

map-reverse : {X Y : Type 0} (f : X → Y) (xs : List X) → map f (reverse xs) ≡ reverse (map f xs)
map-reverse f [] = refl
map-reverse f (x ∷ xs) =
    ap (map f) (reverse-append (x ∷ []) xs) ∙ map-append f (reverse xs) (x ∷ []) ∙ ap (λ ys. ys ++ f x ∷ []) (map-reverse f xs) ∙ sym (reverse-append (f x ∷ []) (map f xs))

pub from_end : {X Y : Type 0} (f : X → Y) (xs : List X) (place : ℕ) → option_map f (slice_get (reverse xs) place) ≡ slice_get (reverse (map f xs)) place
from_end f xs place = sym (slice_get-map f (reverse xs) place) ∙ ap (λ ys. slice_get ys place) (map-reverse f xs)

-- ---- nodes that are joined

-- what is written before one more node
abbrev pub separator : {X : Type 0} → List X → List ℕ
separator [] = []
separator (x ∷ xs) = 46 ∷ []

joined_with : (nodes : List (List ℕ)) (node : List ℕ) → join_by (λ n. n) (46 ∷ []) (nodes ++ node ∷ []) ≡ (join_by (λ n. n) (46 ∷ []) nodes ++ separator nodes) ++ node
joined_with [] node = append-nil node
joined_with (first ∷ nodes) node =
    ap (λ ns. first ++ ns) (flat_map-append (λ n. 46 ∷ n) nodes (node ∷ []) ∙ ap (λ n. flat_map (λ n. 46 ∷ n) nodes ++ 46 ∷ n) (append-nil node))
    ∙ sym (append_assoc (first ++ flat_map (λ n. 46 ∷ n) nodes) (46 ∷ []) node ∙ append_assoc first (flat_map (λ n. 46 ∷ n) nodes) (46 ∷ node))

pub joined_more : {Y : Type 0} (f : Y → List ℕ) (nodes : List Y) (i : ℕ) (node : Y) (text : List ℕ) → i < length nodes → node ≡ get_or nodes i node
    → text ≡ join_by (λ n. n) (46 ∷ []) (map f (take i nodes)) → (text ++ separator (take i nodes)) ++ f node ≡ join_by (λ n. n) (46 ∷ []) (map f (take (i + 1) nodes))
joined_more {Y = Y} f nodes i node text within is so_far =
    ap (λ t. (t ++ separator (take i nodes)) ++ f node) so_far
    ∙ ap (λ s. (join_by (λ n. n) (46 ∷ []) (map f (take i nodes)) ++ s) ++ f node) (of_map (take i nodes))
    ∙ sym (ap (λ ns. join_by (λ n. n) (46 ∷ []) (map f ns)) (take_more nodes i node within ∙ ap (λ n. take i nodes ++ n ∷ []) (sym is))
    ∙ ap (join_by (λ n. n) (46 ∷ [])) (map-append f (take i nodes) (node ∷ [])) ∙ joined_with (map f (take i nodes)) (f node))
  where
    of_map : (ys : List Y) → separator ys ≡ separator (map f ys)
    of_map [] = refl
    of_map (y ∷ ys) = refl

separated_by : {Y : Type 0} (ys : List Y) (y : Y) → 46 ∷ [] ≡ separator (ys ++ y ∷ [])
separated_by [] y = refl
separated_by (z ∷ ys) y = refl

pub separated : {Y : Type 0} (nodes : List Y) (i : ℕ) (node : Y) → i < length nodes → 46 ∷ [] ≡ separator (take (i + 1) nodes)
separated nodes i node within = separated_by (take i nodes) (get_or nodes i node) ∙ ap separator (sym (take_more nodes i node within))

-- ---- the nodes with the numbers up to a place

chosen_next : {N X : Type 0} (h : N → Option X) (numbers : List N) (i : ℕ) (number : N) → i < length numbers → number ≡ get_or numbers i number
    → filter_map h (take (i + 1) numbers) ≡ filter_map h (take i numbers) ++ cons_option (h number) []
chosen_next h numbers i number within is =
    ap (filter_map h) (take_more numbers i number within) ∙ filter_map-append h (take i numbers) (get_or numbers i number ∷ [])
    ∙ ap (λ n. filter_map h (take i numbers) ++ cons_option (h n) []) (sym is)

pub chosen_missing : {N X Y : Type 0} (h : N → Option X) (f : Y → X) (numbers : List N) (i : ℕ) (number : N) (ys : List Y) (found : Option Y) → i < length numbers → number ≡ get_or numbers i number
    → option_map f found ≡ h number → found ≡ None → map f ys ≡ filter_map h (take i numbers) → map f ys ≡ filter_map h (take (i + 1) numbers)
chosen_missing h f numbers i number ys found within is said none so_far =
    so_far ∙ sym (chosen_next h numbers i number within is ∙ ap (λ o. filter_map h (take i numbers) ++ cons_option o []) (sym said ∙ ap (option_map f) none) ∙ append-nil (filter_map h (take i numbers)))

pub chosen_known : {N X Y : Type 0} (h : N → Option X) (f : Y → X) (numbers : List N) (i : ℕ) (number : N) (ys : List Y) (found : Option Y) (y : Y) → i < length numbers → number ≡ get_or numbers i number
    → option_map f found ≡ h number → found ≡ Some y → map f ys ≡ filter_map h (take i numbers) → map f (ys ++ y ∷ []) ≡ filter_map h (take (i + 1) numbers)
chosen_known h f numbers i number ys found y within is said some so_far =
    map-append f ys (y ∷ []) ∙ ap (λ xs. xs ++ f y ∷ []) so_far
    ∙ sym (chosen_next h numbers i number within is ∙ ap (λ o. filter_map h (take i numbers) ++ cons_option o []) (sym said ∙ ap (option_map f) some))
