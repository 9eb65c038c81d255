-- What a search remembers, and how it goes over the nodes of a path.
use Rattle.std.proofs.Common.{◌≡◌, ℕ, ◌+◌, ◌<◌, Bool, true, false, List, [], ◌∷◌, Option, Some, Vec, length, drop, get_or, refl, sym, ap, ◌∙◌, subst}
use Rattle.std.proofs.Math.Seq.{drop-length}
use Rattle.std.proofs.lemmas.List.{drop_more}
use Rattle.std.proofs.lemmas.Slice.Eq.{bytes_eq-Decides}
use Rattle.std.specs.Map.{KeepsOthers, lookup}
use Rattle.std.specs.Str.{bytes_eq}
use Rattle.metric_path.specs.Path.{nodes_of}
use Rattle.path_glob.specs.Glob.{NodeCovers}
use Rattle.path_glob.specs.Reading.{pieces_of}
use Rattle.path_glob.specs.Search.{AreVerdicts}
use Rattle.path_glob.proofs.CoverLemmas.{FitsParts, Tells, fits_none, moved, nodes_never_none, tells_no}

same_verdict : (v w : Bool) → ◌≡◌ {A = Option Bool} (Some v) (Some w) → v ≡ w
same_verdict true true e = refl
same_verdict false false e = refl
same_verdict true false e = absurd cc
same_verdict false true e = absurd cc

pub verdicts_kept : {A : Type 0} (pieces : List ℕ) (key : Vec ℕ A) (verdict : Bool) (es fs : List (Vec ℕ A × Bool)) → AreVerdicts pieces es
    → Tells verdict (NodeCovers (pieces_of pieces) key.items) → lookup (λ k. bytes_eq key.items k.items) fs ≡ Some verdict
    → KeepsOthers (λ x y. bytes_eq x.items y.items) (λ k. bytes_eq key.items k.items) es fs → AreVerdicts pieces fs
unfolding KeepsOthers
verdicts_kept {A} pieces key verdict es fs known tells here others node found is = at (bytes_eq node key.items) refl where
  at : (same : Bool) → bytes_eq node key.items ≡ same → Tells found (NodeCovers (pieces_of pieces) node)
  at true e =
      let one : node ≡ key.items = (bytes_eq-Decides node key.items).0 e in
      let v : found ≡ verdict = same_verdict found verdict (sym is ∙ ap (λ (n : List ℕ). lookup (λ (k : Vec ℕ A). bytes_eq n k.items) fs) one ∙ here) in
      subst (λ (x : Bool). Tells x (NodeCovers (pieces_of pieces) node)) (sym v) (subst (λ (n : List ℕ). Tells verdict (NodeCovers (pieces_of pieces) n)) (sym one) tells)
  at false e =
      let before = others (λ (k : Vec ℕ A). bytes_eq node k.items)
      (λ x y h. ap (λ (l : List ℕ). bytes_eq l y.items) ((bytes_eq-Decides node x.items).0 h))
      (λ y h. ap (bytes_eq node) (sym ((bytes_eq-Decides key.items y.items).0 h)) ∙ e) in
      known node found (sym before ∙ is)

-- ---- node by node

abbrev pub FitsLeft : List (List ℕ) → List (List ℕ) → Type 0 → Type 0
FitsLeft globs nodes P = (FitsParts globs nodes → P) × (P → FitsParts globs nodes)

-- the path has no node more
pub none_left : {P : Type 0} (globs nodes : List (List ℕ)) (i : ℕ) → i < length globs → nodes ≡ [] → FitsLeft (drop i globs) nodes P → Tells false P
none_left globs nodes i within none left =
    tells_no (λ fact. moved (drop i globs) (get_or globs i [] ∷ drop (i + 1) globs) nodes [] (drop_more globs i [] within) none (left.1 fact))

nothing_left : (globs : List (List ℕ)) (i : ℕ) → i ≡ length globs → drop i globs ≡ []
nothing_left globs i end = ap (λ (n : ℕ). drop n globs) end ∙ drop-length globs

-- the glob has no node more, and the path some
pub path_goes_on : {P : Type 0} (globs nodes : List (List ℕ)) (i : ℕ) (rest : List ℕ) → i ≡ length globs → nodes ≡ nodes_of rest → FitsLeft (drop i globs) nodes P → Tells false P
path_goes_on globs nodes i rest end is left =
    tells_no (λ fact. fits_none (nodes_of rest) (nodes_never_none rest) (moved (drop i globs) [] nodes (nodes_of rest) (nothing_left globs i end) is (left.1 fact)))
