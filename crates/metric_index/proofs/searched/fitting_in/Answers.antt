use Rattle.std.proofs.Common.{rules, ◌≡◌, ◌∙◌, ℕ, ◌+◌, Bor, List, [], ◌∷◌, ◌++◌, map, take, Vec, sym, ap, subst}
use Rattle.std.specs.Cmp.{unsigned_Decides}
use Rattle.std.proofs.lemmas.List.{map_push, take_more}
use Rattle.std.proofs.lemmas.Slice.Eq.{starts_is}
use Rattle.path_glob.specs.Faults.{Said}
use Rattle.metric_index.specs.Found.{IsFitted}
use Rattle.metric_index.specs.Searched.{PicksNames}
use Rattle.metric_index.proofs.SearchedLemmas.{picks_more, picks_pass}
use Rattle.metric_index.proofs.searched.fitting_in.Goals as goal
use Rattle.metric_index.proofs.searched.fitting_in.Goals.{then-starts_with+then-fits_next+in_ok-push, else-starts_with, else-starts_with-via-then-starts_with+else-fits_next, else-starts_with-via-else-starts_with}

pub loop-path-preserved : goal.loop-path-preserved
loop-path-preserved c =
    let fits = IsFitted c.args.verdicts.now in
    let names : List (List ℕ) = c.args.names.now in
    let path : List ℕ = c.path-item.result in
    let i : ℕ = c.loop-path.path-index in
    let f : Bor (List ℕ) → List ℕ = λ b. b.now in
    let before : List (Bor (List ℕ)) = c.loop-path.fitting.items in
    let taken : take (i + 1) names ≡ take i names ++ path ∷ [] = take_more names i path c.loop-path-test.true ∙ ap (λ (p : List ℕ). take i names ++ p ∷ []) (sym c.path-item.is) in
    subst (λ (l : List (List ℕ)). PicksNames fits l (map f c.if-starts_with.fitting.items)) (sym taken) (elim c.if-starts_with.branch [
      | then-starts_with+then-fits_next+in_ok-push w ↦
          let items : map f c.if-starts_with.fitting.items ≡ map f before ++ path ∷ [] = ap (λ (v : Vec (Bor (List ℕ)) _). map f v.items) w.fitting-is ∙ (ap (map f) w.in_ok-push.ensures.items ∙ map_push f before _) in
          subst (PicksNames fits (take i names ++ path ∷ [])) (sym items)
          (picks_more fits (take i names) (map f before) path c.loop-path.invariant (w.fits_next.ensures.0 w.if-fits_next.true))
      | else-starts_with w ↦
          let items : map f c.if-starts_with.fitting.items ≡ map f before = search rules in
          subst (PicksNames fits (take i names ++ path ∷ [])) (sym items)
          (picks_pass fits (take i names) (map f before) path c.loop-path.invariant (elim w.else-starts_with.branch [
            | else-starts_with-via-then-starts_with+else-fits_next v ↦ λ fit. absurd (let yes = sym v.if-fits_next.false ∙ v.fits_next.ensures.1 fit in cc)
            | else-starts_with-via-else-starts_with v ↦ λ fit.
                let begins = c.literal_front-front.ensures.fits path (subst (λ (g : Said). IsFitted g path) (sym c.glob.ensures) fit) in
                let starts = starts_is unsigned_Decides c.text.result.now c.literal_front-front.result.now c.starts_with.result c.starts_with.ensures.value in
                absurd (let yes = sym v.if-starts_with.false ∙ starts.1 begins.0 (c.text.ensures.value ∙ begins.1) in cc)
          ]))
    ])
