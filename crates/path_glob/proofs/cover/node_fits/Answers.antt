use Rattle.std.proofs.Common.{◌≡◌, ◌∙◌, ◌++◌, ℕ, List, Bool, length, take, drop, ap, sym, subst, take-append-drop}
use Rattle.std.proofs.lemmas.List.{take_rest}
use Rattle.std.proofs.lemmas.Slice.Eq.{bytes_eq-Decides}
use Rattle.path_glob.specs.Glob.{NodeCovers}
use Rattle.path_glob.specs.Reading.{is_special, pieces_of}
use Rattle.path_glob.proofs.CoverLemmas.{Tells, plain_covers, plain_itself, plain_where_none}
use Rattle.path_glob.proofs.FirstLemmas.{plain_apart, plain_then}
use Rattle.path_glob.proofs.PartLemmas.{none_before}
use Rattle.path_glob.proofs.cover.node_fits.Goals as goal

pub returns-in_default : goal.returns-in_default
returns-in_default c =
    let pieces = c.args.pieces.now in
    let node = c.args.node.now in
    let plain = plain_where_none pieces (sym c.special_in.ensures.value ∙ c.in_default.is) in
    let decides = bytes_eq-Decides pieces node in
    (λ is. plain_itself pieces node plain (sym (decides.0 (sym c.eq.ensures ∙ is))), λ covers. c.eq.ensures ∙ decides.1 (sym (plain_covers pieces node plain covers)))

-- a text is the bytes before a place and those from it on
whole : (text node : List ℕ) (at : ℕ) (answer : Bool) → Tells answer (NodeCovers (pieces_of (take at text ++ drop at text)) node) → Tells answer (NodeCovers (pieces_of text) node)
whole text node at answer tells = subst (λ (l : List ℕ). Tells answer (NodeCovers (pieces_of l) node)) (take-append-drop at text) tells

pub returns-in-Some-strip_prefix : goal.returns-in-Some-strip_prefix
returns-in-Some-strip_prefix c =
    let pieces = c.args.pieces.now in
    let node = c.args.node.now in
    let at = c.in-Some.at in
    let front = take at pieces in
    let plain = none_before is_special pieces at (sym c.special_in.ensures.value ∙ c.in-Some.is) in
    let cases = c.in-Some-strip_prefix.ensures.cases in
    let head : take (length front) node ≡ front = (bytes_eq-Decides (take (length front) node) front).0 cases.0 in
    let is : node ≡ front ++ c.in-Some-strip_prefix.rest.now =
    sym (take-append-drop (length front) node) ∙ ap (λ (l : List ℕ). l ++ drop (length front) node) head ∙ ap (λ (l : List ℕ). front ++ l) (sym cases.1) in
    whole pieces node at _ (plain_then front (drop at pieces) node c.in-Some-strip_prefix.rest.now _ plain is (rw take_rest at c.pieces_fit.ensures))

pub returns-in-None : goal.returns-in-None
returns-in-None c =
    let pieces = c.args.pieces.now in
    let node = c.args.node.now in
    let at = c.in-Some.at in
    let front = take at pieces in
    let plain = none_before is_special pieces at (sym c.special_in.ensures.value ∙ c.in-Some.is) in
    whole pieces node at _ (plain_apart front (drop at pieces) node plain (λ same.
    let yes = (bytes_eq-Decides (take (length front) node) front).1 same in
    absurd (let e = sym c.in-None.ensures.cases ∙ yes in cc)))
