-- The targets of a query, one after the other.
use Rattle.std.proofs.Common.{◌≡◌, ℕ, ◌+◌, List, [], ◌∷◌, ◌++◌, map, Result, Ok, Err, refl, ap, ◌∙◌}
use Rattle.render_plan.specs.declared.fault.QueryFault.{QueryFault}
use Rattle.render_plan.specs.declared.target.Target.{Target}
use Rattle.render_plan.specs.Planned.{target_at, targets_from}
use Rattle.render_plan.specs.Settled.{where_good}
use Rattle.render_plan.specs.Terms.{Term, term_of}

-- what some targets ask, and then what is left
abbrev pub asked_before : List Target → Result (List Term) QueryFault → Result (List Term) QueryFault
asked_before targets (Ok terms) = Ok (map term_of targets ++ terms)
asked_before targets (Err fault) = Err fault

pub asked_start : (r : Result (List Term) QueryFault) → asked_before [] r ≡ r
asked_start (Ok terms) = refl
asked_start (Err fault) = refl

push_over : (targets : List Target) (target : Target) (terms : List Term) → map term_of targets ++ term_of target ∷ terms ≡ map term_of (targets ++ target ∷ []) ++ terms
push_over [] target terms = refl
push_over (other ∷ targets) target terms = ap (λ (l : List Term). term_of other ∷ l) (push_over targets target terms)

asked_by : (targets : List Target) (target : Target) (r : Result (List Term) QueryFault)
    → asked_before targets (where_good (Ok (term_of target)) (λ term. where_good r (λ terms. Ok (term ∷ terms)))) ≡ asked_before (targets ++ target ∷ []) r
asked_by targets target (Ok terms) = ap (λ (l : List Term). Ok l) (push_over targets target terms)
asked_by targets target (Err fault) = refl

pub asked_next : (targets : List Target) (n : ℕ) (text : List ℕ) (texts : List (List ℕ)) (target : Target) → target_at n text ≡ Ok (term_of target)
    → asked_before targets (targets_from n (text ∷ texts)) ≡ asked_before (targets ++ target ∷ []) (targets_from (n + 1) texts)
asked_next targets n text texts target is =
    ap (λ (r : Result Term QueryFault). asked_before targets (where_good r (λ term. where_good (targets_from (n + 1) texts) (λ terms. Ok (term ∷ terms))))) is
    ∙ asked_by targets target (targets_from (n + 1) texts)

pub asked_stop : (targets : List Target) (n : ℕ) (text : List ℕ) (texts : List (List ℕ)) (fault : QueryFault) → target_at n text ≡ Err fault → asked_before targets (targets_from n (text ∷ texts)) ≡ Err fault
asked_stop targets n text texts fault is = ap (λ (r : Result Term QueryFault). asked_before targets (where_good r (λ term. where_good (targets_from (n + 1) texts) (λ terms. Ok (term ∷ terms))))) is
