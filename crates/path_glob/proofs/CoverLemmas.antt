-- What a whole text fits, node by node.
use Rattle.std.proofs.Common.{◌≡◌, ℕ, ◌<◌, ◌||◌, Bool, true, false, List, [], ◌∷◌, ◌++◌, length, map, position, None, All, refl, sym, ap, ◌∙◌, ◌≤◌, leb, leb-true, subst, arith, eqb}
use Rattle.std.proofs.lemmas.Bool.{and_parts}
use Rattle.std.proofs.lemmas.List.Elements.{All-head, All-tail}
use Rattle.std.proofs.lemmas.List.Splits.{length-slice_split}
use Rattle.std.specs.List.{list_all}
use Rattle.metric_path.specs.Path.{is_dot, nodes_of}
use Rattle.path_glob.specs.Glob.{Exact, Fits, NodeCovers, Piece, Plain}
use Rattle.path_glob.specs.Reading.{globs_of, is_special, pieces_of, row_of}
use Rattle.path_glob.proofs.PartLemmas.{none_where_nowhere, opened_nowhere}

abbrev pub IsPlain : List ℕ → Type 0
IsPlain text = All (λ b. is_special b ≡ false) text

pub record Ordinary (b : ℕ) : Type 0 where
  pub no_row : eqb b 42 ≡ false
  pub no_any : eqb b 63 ≡ false
  pub no_list : eqb b 91 ≡ false
  pub no_braces : eqb b 123 ≡ false

none_of : (p q r s : Bool) → (p || (q || (r || s))) ≡ false → (p ≡ false) × (q ≡ false) × (r ≡ false) × (s ≡ false)
none_of true q r s e = absurd cc
none_of false true r s e = absurd cc
none_of false false true s e = absurd cc
none_of false false false s e = (refl, refl, refl, e)

pub ordinary_of : (b : ℕ) → is_special b ≡ false → Ordinary b
ordinary_of b e =
    let parts = none_of (eqb b 42) (eqb b 63) (eqb b 91) (eqb b 123) e in
    record { no_row = parts.0; no_any = parts.1; no_list = parts.2; no_braces = parts.3 }

-- a text without wildcards says its own bytes
pub row_of_plain : (text : List ℕ) → IsPlain text → row_of text ≡ map Exact text
row_of_plain [] plain = refl
row_of_plain (b ∷ text) plain =
    let o = ordinary_of b (All-head (λ x. is_special x ≡ false) b text plain) in
    let others = row_of_plain text (All-tail (λ x. is_special x ≡ false) b text plain) in
    rw (o.no_list, o.no_row, o.no_any, others) refl

-- a byte without a wildcard comes first
pub row_of_byte : (b : ℕ) (rest : List ℕ) → is_special b ≡ false → row_of (b ∷ rest) ≡ Exact b ∷ row_of rest
row_of_byte b rest e = let o = ordinary_of b e in rw (o.no_list, o.no_row, o.no_any) refl

pub pieces_of_plain : (text : List ℕ) → IsPlain text → pieces_of text ≡ map Plain (map Exact text)
pieces_of_plain text plain =
    opened_nowhere [] text (λ k d within. (ordinary_of _ (plain k d within)).no_braces) ∙ ap (map Plain) (row_of_plain text plain)

pub exactly : (text bytes : List ℕ) → NodeCovers (map Plain (map Exact text)) bytes → bytes ≡ text
exactly [] bytes is = is
exactly (b ∷ text) bytes (front, rest, is, one, others) = is ∙ ap (λ (l : List ℕ). l ++ rest) one ∙ ap (λ (l : List ℕ). b ∷ l) (exactly text rest others)

pub itself : (text : List ℕ) → NodeCovers (map Plain (map Exact text)) text
itself [] = refl
itself (b ∷ text) = (b ∷ [], text, refl, refl, itself text)

-- such a text covers its own bytes alone
pub plain_covers : (text bytes : List ℕ) → IsPlain text → NodeCovers (pieces_of text) bytes → bytes ≡ text
plain_covers text bytes plain covers = exactly text bytes (subst (λ (p : List Piece). NodeCovers p bytes) (pieces_of_plain text plain) covers)

pub plain_itself : (text bytes : List ℕ) → IsPlain text → bytes ≡ text → NodeCovers (pieces_of text) bytes
plain_itself text bytes plain is = rw (is, pieces_of_plain text plain) (itself text)

-- a text has a node
pub nodes_never_none : (text : List ℕ) → 0 < length (nodes_of text)
nodes_never_none text = omega (arith, length-slice_split is_dot text)

pub none_fits : (globs : List (List ℕ)) → 0 < length globs → Fits (map pieces_of globs) [] → ⊥
none_fits [] some fits = omega arith
none_fits (glob ∷ globs) some fits = fits

pub fits_none : (nodes : List (List ℕ)) → 0 < length nodes → Fits [] nodes → ⊥
fits_none [] some fits = omega arith
fits_none (node ∷ nodes) some fits = fits

-- a text of several nodes fits no path of one, nor the other way round
pub too_few_nodes : (pieces : List Piece) (globs node : List ℕ) → Fits (pieces ∷ globs_of globs) (node ∷ []) → ⊥
too_few_nodes pieces globs node fits = none_fits (nodes_of globs) (nodes_never_none globs) fits.1

pub too_many_nodes : (pieces : List Piece) (node nodes : List ℕ) → Fits (pieces ∷ []) (node ∷ nodes_of nodes) → ⊥
too_many_nodes pieces node nodes fits = fits_none (nodes_of nodes) (nodes_never_none nodes) fits.1

pub plain_where_none : (text : List ℕ) → position is_special text ≡ None → IsPlain text
plain_where_none text none = none_where_nowhere is_special text none

abbrev pub are_short : List (List ℕ) → Bool
are_short nodes = list_all (λ node. leb (length node) 240) nodes

-- the first node is short, and so are the others
pub short_parts : (nodes : List (List ℕ)) (node : List ℕ) (others : List (List ℕ)) → are_short nodes ≡ true → nodes ≡ node ∷ others
    → (length node ≤ 240) × (are_short others ≡ true)
short_parts nodes node others short is =
    let both = and_parts (leb (length node) 240) (are_short others) (sym (ap are_short is) ∙ short) in
    (leb-true (length node) 240 both.0, both.1)

-- whether a test that tells this is one that tells that
abbrev pub Tells : Bool → Type 0 → Type 0
Tells answer fact = (answer ≡ true → fact) × (fact → answer ≡ true)

pub tells_no : {P : Type 0} → (P → ⊥) → Tells false P
tells_no none = (λ e. absurd cc, λ fact. absurd (none fact))

-- the last node of a glob at a path's several nodes, and at its last
pub last_of_many : (pieces : List Piece) (nodes node others : List ℕ) → nodes_of nodes ≡ node ∷ nodes_of others → Tells false (Fits (pieces ∷ []) (nodes_of nodes))
last_of_many pieces nodes node others is =
    tells_no (λ fits. too_many_nodes pieces node others (subst (λ (l : List (List ℕ)). Fits (pieces ∷ []) l) is fits))

pub last_of_one : (pieces : List Piece) (nodes node : List ℕ) (answer : Bool) → nodes_of nodes ≡ node ∷ [] → Tells answer (NodeCovers pieces node) → Tells answer (Fits (pieces ∷ []) (nodes_of nodes))
last_of_one pieces nodes node answer is tells = (
  λ yes. subst (λ (l : List (List ℕ)). Fits (pieces ∷ []) l) (sym is) (tells.0 yes, tt),
  λ fits. tells.1 (subst (λ (l : List (List ℕ)). Fits (pieces ∷ []) l) is fits).0,
)

abbrev pub FitsParts : List (List ℕ) → List (List ℕ) → Type 0
FitsParts globs nodes = Fits (map pieces_of globs) nodes

pub moved : (gs gs' ns ns' : List (List ℕ)) → gs ≡ gs' → ns ≡ ns' → FitsParts gs ns → FitsParts gs' ns'
moved gs gs' ns ns' e f fits = subst (λ (l : List (List ℕ)). FitsParts l ns') e (subst (λ (l : List (List ℕ)). FitsParts gs l) f fits)

-- what is left of a glob and a path fits exactly where this holds
abbrev pub FitsWhere : List ℕ → List ℕ → Type 0 → Type 0
FitsWhere globs nodes P = (FitsParts (nodes_of globs) (nodes_of nodes) → P) × (P → FitsParts (nodes_of globs) (nodes_of nodes))

-- several nodes of a glob are left, and one of the path
pub several_at_one : {P : Type 0} (globs glob others nodes : List ℕ) → nodes_of globs ≡ glob ∷ nodes_of others → nodes_of nodes ≡ nodes ∷ [] → FitsWhere globs nodes P → Tells false P
several_at_one globs glob others nodes is one left =
    tells_no (λ fact. too_few_nodes (pieces_of glob) others nodes (moved (nodes_of globs) (glob ∷ nodes_of others) (nodes_of nodes) (nodes ∷ []) is one (left.1 fact)))

-- a node does not fit
pub first_fits_not : {P : Type 0} (globs glob others nodes node further : List ℕ) → nodes_of globs ≡ glob ∷ nodes_of others → nodes_of nodes ≡ node ∷ nodes_of further
    → Tells false (NodeCovers (pieces_of glob) node) → FitsWhere globs nodes P → Tells false P
first_fits_not globs glob others nodes node further is same tells left =
    tells_no (λ fact.
    let covers = (moved (nodes_of globs) (glob ∷ nodes_of others) (nodes_of nodes) (node ∷ nodes_of further) is same (left.1 fact)).0 in
    let told : false ≡ true = tells.1 covers in absurd cc)

-- a node fits
pub first_fits : {P : Type 0} (globs glob others nodes node further : List ℕ) → nodes_of globs ≡ glob ∷ nodes_of others → nodes_of nodes ≡ node ∷ nodes_of further
    → Tells true (NodeCovers (pieces_of glob) node) → FitsWhere globs nodes P → FitsWhere others further P
first_fits globs glob others nodes node further is same tells left = (
  λ fits. left.0 (moved (glob ∷ nodes_of others) (nodes_of globs) (node ∷ nodes_of further) (nodes_of nodes) (sym is) (sym same) (tells.0 refl, fits)),
  λ fact. (moved (nodes_of globs) (glob ∷ nodes_of others) (nodes_of nodes) (node ∷ nodes_of further) is same (left.1 fact)).1,
)

-- the last node of the glob
pub last_fits_where : {P : Type 0} (globs nodes : List ℕ) (answer : Bool) → nodes_of globs ≡ globs ∷ [] → Tells answer (Fits (pieces_of globs ∷ []) (nodes_of nodes)) → FitsWhere globs nodes P → Tells answer P
last_fits_where globs nodes answer is tells left = (
  λ yes. left.0 (moved (globs ∷ []) (nodes_of globs) (nodes_of nodes) (nodes_of nodes) (sym is) refl (tells.0 yes)),
  λ fact. tells.1 (moved (nodes_of globs) (globs ∷ []) (nodes_of nodes) (nodes_of nodes) is refl (left.1 fact)),
)
