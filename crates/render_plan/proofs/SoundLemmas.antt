-- What was checked is sound: its calls nest no deeper than those of the target.
use Rattle.std.proofs.Common.{ℕ, ◌-◌, ◌≤◌, List, [], ◌∷◌, ◌++◌, All, arith}
use Rattle.std.proofs.lemmas.List.Elements.{All-head, All-tail}
use Rattle.target_parse.specs.Bytes.{most_depth}
use Rattle.render_plan.specs.declared.target.Target.{Target}
use Rattle.render_plan.specs.Sound.{AreSound, IsSound}
use Rattle.render_plan.specs.Terms.{Term, Terms, Fetch, Apply, NoTerms, WithTerm, term_of, terms_of}

-- what is sound in so many levels is so in more
mutual
  sound_in_more : (term : Term) (levels more : ℕ) → levels ≤ more → IsSound levels term → IsSound more term
  sound_in_more (Fetch glob) levels more le sound = tt
  sound_in_more (Apply operation terms) levels more le sound =
      (omega (arith, le, sound.0), sound.1, all_sound_in_more terms (levels - 1) (more - 1) (omega (arith, le)) sound.2)

  all_sound_in_more : (terms : Terms) (levels more : ℕ) → levels ≤ more → AreSound levels terms → AreSound more terms
  all_sound_in_more NoTerms levels more le sound = tt
  all_sound_in_more (WithTerm term terms) levels more le sound = (sound_in_more term levels more le sound.0, all_sound_in_more terms levels more le sound.1)

push_sound : (targets : List Target) (target : Target) (levels : ℕ) → IsSound levels (term_of target) → AreSound levels (terms_of targets) → AreSound levels (terms_of (targets ++ target ∷ []))
push_sound [] target levels sound all = (sound, tt)
push_sound (first ∷ targets) target levels sound all = (all.0, push_sound targets target levels sound all.1)

pub sound_next : (targets : List Target) (target : Target) (depth levels : ℕ) → IsSound depth (term_of target) → depth ≤ levels
    → AreSound levels (terms_of targets) → AreSound levels (terms_of (targets ++ target ∷ []))
sound_next targets target depth levels sound le all = push_sound targets target levels (sound_in_more (term_of target) depth levels le sound) all

pub sound_in_most : (target : Target) (depth most : ℕ) → IsSound depth (term_of target) → depth ≤ most → IsSound most (term_of target)
sound_in_most target depth most sound le = sound_in_more (term_of target) depth most le sound

pub all_sound : (targets : List Target) → All (λ target. IsSound most_depth (term_of target)) targets → AreSound most_depth (terms_of targets)
all_sound [] all = tt
all_sound (target ∷ targets) all =
    (All-head (λ target. IsSound most_depth (term_of target)) target targets all, all_sound targets (All-tail (λ target. IsSound most_depth (term_of target)) target targets all))
