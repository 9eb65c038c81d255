-- The places of each byte of a node.
use Rattle.std.proofs.Common.{◌≡◌, ℕ, zero, suc, ◌+◌, ◌==◌, ◌<◌, inl, inr, Bool, true, false, List, [], ◌∷◌, length, get_or, replicate, set, refl, sym, ap, ap₂, ◌∙◌, arith}
use Rattle.std.proofs.lemmas.Bool.{cases_eq, eqb-true}
use Rattle.std.proofs.lemmas.List.{get_or-set_other, get_or-set_same}
use Rattle.path_glob.specs.Positions.{held}
use Rattle.path_glob.specs.declared.positions.Positions.{Positions}
use Rattle.path_glob.proofs.BitLemmas.{AreDone, done_more}
use Rattle.path_glob.proofs.PartLemmas.{same_byte}

pub filled : {A : Type 0} (n : ℕ) (x d : A) (i : ℕ) → i < n → get_or (replicate n x) i d ≡ x
filled zero x d i within = absurd (omega (arith, within))
filled (suc n) x d zero within = refl
filled (suc n) x d (suc i) within = filled n x d i (omega (arith, within))

-- what stands within a list stands there whatever is taken beyond it
pub any_default : {A : Type 0} (xs : List A) (i : ℕ) (d e : A) → i < length xs → get_or xs i d ≡ get_or xs i e
any_default [] i d e within = absurd (omega (arith, within))
any_default (x ∷ xs) zero d e within = refl
any_default (x ∷ xs) (suc i) d e within = any_default xs i d e (omega (arith, within))

pub differs : (x y : ℕ) → (x ≡ y → ⊥) → (x == y) ≡ false
differs x y other = at (x == y) refl where
  at : (same : Bool) → (x == y) ≡ same → (x == y) ≡ false
  at true e = absurd (other (eqb-true x y e))
  at false e = e

-- the place of one byte more
pub placed : (node : List ℕ) (of : List Positions) (d : Positions) (at : ℕ) (p : Positions) (i b : ℕ) → at < length of → at ≡ get_or node i 0 → held p i ≡ true
    → ((j : ℕ) → (j ≡ i → ⊥) → held p j ≡ held (get_or of at d) j) → AreDone (λ j. get_or node j 0 == b) (held (get_or of b d)) i
    → AreDone (λ j. get_or node j 0 == b) (held (get_or (set of at p) b d)) (i + 1)
placed node of d at p i b within byte added others done = elim (cases_eq b at) [
  | inl same ↦
      let slot : get_or (set of at p) b d ≡ p = ap (λ (k : ℕ). get_or (set of at p) k d) same ∙ get_or-set_same of at p d within in
      done_more (λ j. get_or node j 0 == b) (held (get_or of b d)) (held (get_or (set of at p) b d)) i
      (ap (λ (q : Positions). held q i) slot ∙ added ∙ sym (ap₂ (λ (x y : ℕ). x == y) (sym byte) same ∙ same_byte at))
      (λ j other. ap (λ (q : Positions). held q j) slot ∙ others j other ∙ ap (λ (k : ℕ). held (get_or of k d) j) (sym same)) done
  | inr apart ↦
      let slot : get_or (set of at p) b d ≡ get_or of b d = get_or-set_other of at b p d apart in
      done_more (λ j. get_or node j 0 == b) (held (get_or of b d)) (held (get_or (set of at p) b d)) i
      (ap (λ (q : Positions). held q i) slot ∙ done.1 i (omega arith) ∙ sym (differs (get_or node i 0) b (λ e. apart (sym e ∙ sym byte))))
      (λ j other. ap (λ (q : Positions). held q j) slot) done
]
