use Rattle.std.proofs.Common.{◌∙◌, ℕ, List, sym, subst, refl}
use Rattle.std.proofs.lemmas.Slice.Eq.{bytes_eq-Decides}
use Rattle.path_glob.specs.Glob.{NodeCovers}
use Rattle.path_glob.specs.Reading.{pieces_of}
use Rattle.path_glob.proofs.FirstLemmas.{star_covers}
use Rattle.path_glob.proofs.cover.pieces_fit.Goals as goal

pub returns-then-eq : goal.returns-then-eq
returns-then-eq c =
    let is = (bytes_eq-Decides c.args.pieces.now c.as_slice.result.now).0 (sym c.eq.ensures ∙ c.if-eq.true) in
    (λ yes. subst (λ (l : List ℕ). NodeCovers (pieces_of l) c.args.bytes.now) (sym (is ∙ c.as_slice.ensures)) (star_covers c.args.bytes.now), λ covers. refl)
