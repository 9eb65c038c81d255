-- What is known of a glob beforehand.
use Rattle.std.proofs.Common.{◌≡◌, ◌↔◌, ℕ, zero, suc, Bool, IsTrue, List, [], ◌∷◌, ◌++◌, length, get_or, ◌<◌, subst, sym, arith}
use Rattle.path_glob.specs.Faults.{Said}
use Rattle.metric_index.specs.Found.{IsFitted}
use Rattle.metric_index.specs.Verdicts.{AreVerdicts}

-- one verdict more, on the path that comes next
pub verdicts_more : (glob : Said) (paths : List (List ℕ)) (verdicts : List Bool) (fits : Bool) (path d : List ℕ) → AreVerdicts glob paths verdicts → length verdicts < length paths → get_or paths (length verdicts) d ≡ path
    → (IsTrue fits ↔ IsFitted glob path) → AreVerdicts glob paths (verdicts ++ fits ∷ [])
verdicts_more glob [] [] fits path d have some next is = absurd (omega (arith, some))
verdicts_more glob (first ∷ paths) [] fits path d have some next is = (subst (λ (p : List ℕ). IsTrue fits ↔ IsFitted glob p) (sym next) is, tt)
verdicts_more glob [] (v ∷ verdicts) fits path d have some next is = absurd have
verdicts_more glob (first ∷ paths) (v ∷ verdicts) fits path d have some next is = (have.0, verdicts_more glob paths verdicts fits path d have.1 (omega (arith, some)) next is)

-- what is known at a place holds of the path there
pub known_verdict : (glob : Said) (paths : List (List ℕ)) (verdicts : List Bool) (i : ℕ) (path d : List ℕ) (e : Bool) → AreVerdicts glob paths verdicts → i < length paths → i < length verdicts → get_or paths i d ≡ path
    → IsTrue (get_or verdicts i e) ↔ IsFitted glob path
known_verdict glob paths [] i path d e have there known same = absurd (omega (arith, known))
known_verdict glob [] (v ∷ verdicts) i path d e have there known same = absurd have
known_verdict glob (first ∷ paths) (v ∷ verdicts) zero path d e have there known same = subst (λ (p : List ℕ). IsTrue v ↔ IsFitted glob p) same have.0
known_verdict glob (first ∷ paths) (v ∷ verdicts) (suc i) path d e have there known same =
    known_verdict glob paths verdicts i path d e have.1 (omega (arith, there)) (omega (arith, known)) same

-- of one glob all is known that is known of another, where they are the same
pub fitted_by : (one other : Said) (path : List ℕ) → one ≡ other → IsFitted one path → IsFitted other path
fitted_by one other path same fit = subst (λ (g : Said). IsFitted g path) same fit
