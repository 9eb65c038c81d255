-- The arguments of a call that are series, one after the other.
use Rattle.std.proofs.Common.{◌≡◌, ℕ, ◌≤◌, drop, length, true, false, List, [], ◌∷◌, ◌++◌, Result, Ok, Err, refl, sym, ap, ◌∙◌}
use Rattle.std.proofs.lemmas.List.{drop_all}
use Rattle.target_parse.specs.declared.expr.Expr.{Expr}
use Rattle.render_plan.specs.declared.check.Refusal.{Refusal}
use Rattle.render_plan.specs.declared.target.Target.{Target}
use Rattle.target_parse.specs.Tree.{Tree, Trees, Then, trees_of}
use Rattle.render_plan.specs.Arguments.{is_series}
use Rattle.render_plan.specs.Checked.{checked, checked_all, onto_terms, terms_before, with_term}
use Rattle.render_plan.specs.Terms.{Term, Terms, NoTerms, WithTerm, term_of, terms_of}

pub terms_start : (r : Result Terms Refusal) → terms_before [] r ≡ r
terms_start (Ok terms) = refl
terms_start (Err refusal) = refl

onto_push : (targets : List Target) (target : Target) (terms : Terms) → onto_terms targets (WithTerm (term_of target) terms) ≡ onto_terms (targets ++ target ∷ []) terms
onto_push [] target terms = refl
onto_push (other ∷ targets) target terms = ap (WithTerm (term_of other)) (onto_push targets target terms)

push_by : (targets : List Target) (target : Target) (r : Result Terms Refusal) → terms_before targets (with_term (Ok (term_of target)) r) ≡ terms_before (targets ++ target ∷ []) r
push_by targets target (Ok terms) = ap (λ (t : Terms). Ok t) (onto_push targets target terms)
push_by targets target (Err refusal) = refl

pub terms_next : (targets : List Target) (target : Target) (first : Result Term Refusal) (r : Result Terms Refusal) → first ≡ Ok (term_of target)
    → terms_before targets (with_term first r) ≡ terms_before (targets ++ target ∷ []) r
terms_next targets target first r is = ap (λ (f : Result Term Refusal). terms_before targets (with_term f r)) is ∙ push_by targets target r

pub terms_stop : (targets : List Target) (refusal : Refusal) (first : Result Term Refusal) (r : Result Terms Refusal) → first ≡ Err refusal → terms_before targets (with_term first r) ≡ Err refusal
terms_stop targets refusal first r is = ap (λ (f : Result Term Refusal). terms_before targets (with_term f r)) is

pub terms_end : (targets : List Target) → onto_terms targets NoTerms ≡ terms_of targets
terms_end [] = refl
terms_end (target ∷ targets) = ap (WithTerm (term_of target)) (terms_end targets)

pub all_skip : (targets : List Target) (tree : Tree) (rest : Trees) → is_series tree ≡ false → terms_before targets (checked_all (Then tree rest)) ≡ terms_before targets (checked_all rest)
all_skip targets tree rest is = rw is refl

pub all_next : (targets : List Target) (tree : Tree) (rest : Trees) (target : Target) → is_series tree ≡ true → checked tree ≡ Ok (term_of target)
    → terms_before targets (checked_all (Then tree rest)) ≡ terms_before (targets ++ target ∷ []) (checked_all rest)
all_next targets tree rest target is read = rw is (terms_next targets target (checked tree) (checked_all rest) read)

pub all_stop : (targets : List Target) (tree : Tree) (rest : Trees) (refusal : Refusal) → is_series tree ≡ true → checked tree ≡ Err refusal → terms_before targets (checked_all (Then tree rest)) ≡ Err refusal
all_stop targets tree rest refusal is read = rw is (terms_stop targets refusal (checked tree) (checked_all rest) read)

pub all_done : (targets : List Target) (arguments : List Expr) (index : ℕ) (whole : Result Terms Refusal) → terms_before targets (checked_all (trees_of (drop index arguments))) ≡ whole
    → length arguments ≤ index → whole ≡ Ok (terms_of targets)
all_done targets arguments index whole so_far end =
    sym so_far
    ∙ ap (λ (left : List Expr). terms_before targets (checked_all (trees_of left))) (drop_all index arguments end)
    ∙ ap (λ (t : Terms). Ok t) (terms_end targets)
