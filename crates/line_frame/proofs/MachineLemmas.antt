-- Lemmas on the runs of a machine over lines.
use Rattle.std.proofs.Common.{ℕ, List, [], ◌∷◌, ◌++◌, refl, sym, ap, ◌∙◌, subst, append_assoc, append-nil}
use Rattle.line_frame.specs.Lines.{Line}
use Rattle.line_frame.specs.Machine.{Runs}

-- over no lines a machine stays, and writes nothing
pub Runs-none : {S : Type 0} (step : S → Line → S → List ℕ → Type 0) (state : S) → Runs step state [] state []
Runs-none step state = (refl, refl)

-- a run goes on with one more line
pub Runs-more : {S : Type 0} (step : S → Line → S → List ℕ → Type 0) (start : S) (done : List Line) (now : S) (text : List ℕ) (line : Line) (next : S) (said : List ℕ)
    → Runs step start done now text → step now line next said → Runs step start (done ++ line ∷ []) next (text ++ said)
Runs-more {S} step start [] now text line next said run does =
    (next, said, [], (subst (λ (s : S). step s line next said) run.0 does, ((refl, refl), ap (λ (t : List ℕ). t ++ said) run.1 ∙ sym (append-nil said))))
Runs-more step start (first ∷ others) now text line next said run does =
    (run.0, run.1, run.2 ++ said, (run.3.0, (Runs-more step run.0 others now run.2 line next said run.3.1.0 does, ap (λ (t : List ℕ). t ++ said) run.3.1.1 ∙ append_assoc run.1 run.2 said)))
