-- Nothing is pending where all was drained.
use Rattle.std.proofs.Common.{◌≡◌, inl, inr, ◌==◌, false, ℕ, zero, suc, ◌<◌, List, [], ◌∷◌, refl, sym, ◌∙◌, subst, arith}
use Rattle.std.proofs.lemmas.Bool.{cases_order}
use Rattle.std.proofs.lemmas.Bool.Decides.{eqb_tells}
use Rattle.metric_path.specs.Class.{class_of}
use Rattle.carbon_history.specs.declared.entry.Entry.{Entry}
use Rattle.carbon_history.specs.declared.entry.Entry.TheVariants as entry
use Rattle.carbon_model.specs.State.{State}
use Rattle.carbon_model.specs.Replay.{DrainsAll, DrainsClass, DrainsClasses, DrainsSome, IsDrainOf, after, replay}
use Rattle.carbon_model.proofs.HistoryLemmas.{replay-append}

other_number : (j k : ℕ) → (j ≡ k → ⊥) → (j == k) ≡ false
other_number j k other = elim (eqb_tells j k) [
  | inl same ↦ absurd (other same.1)
  | inr differs ↦ differs.0
]

below_next : (k n : ℕ) → k < suc n → (k ≡ n → ⊥) → k < n
below_next k n few other = elim (cases_order k n) [
  | inl same ↦ absurd (other same)
  | inr rest ↦ elim rest [
    | inl less ↦ less
    | inr more ↦ absurd (omega (arith, few, more))
  ]
]

-- a drain of another class leaves what is pending of this one
other_stays : (s : State) (pass class now : ℕ) (e : Entry) (j : ℕ) → IsDrainOf pass class now e → (j ≡ class → ⊥) → (after s e).pending j ≡ s.pending j
other_stays s pass class now (entry.Drain by path at) j is other = rw (other_number j (class_of path) (λ same. other (same ∙ is.1.0))) refl
other_stays s pass class now (entry.Put by path time value end) j is other = absurd is
other_stays s pass class now (entry.Ask by number try at) j is other = absurd is
other_stays s pass class now (entry.Fault by of_class) j is other = absurd is

others_stay : (s : State) (pass class now : ℕ) (drains : List Entry) (j : ℕ) → DrainsSome s pass class now drains → (j ≡ class → ⊥) → (replay s drains).pending j ≡ s.pending j
others_stay s pass class now [] j made other = refl
others_stay s pass class now (e ∷ es) j made other =
    others_stay (after s e) pass class now es j made.1.1 other ∙ other_stays s pass class now e j made.0 other

at_last : (s : State) (pass class now : ℕ) (before last : List Entry) (k : ℕ) → DrainsClass (replay s before) pass class now last → (k < class → (replay s before).pending k ≡ []) → k < suc class
    → (replay (replay s before) last).pending k ≡ []
at_last s pass class now before last k drains earlier few = elim (eqb_tells k class) [
  | inl same ↦ subst (λ (j : ℕ). (replay (replay s before) last).pending j ≡ []) (sym same.1) drains.none_pending
  | inr other ↦ others_stay (replay s before) pass class now last k drains.drains other.1 ∙ earlier (below_next k class few other.1)
]

none_below : (s : State) (pass n now : ℕ) (drains : List Entry) → DrainsClasses s pass n now drains → (k : ℕ) → k < n → (replay s drains).pending k ≡ []
none_below s pass zero now drains made k few = absurd (omega (arith, few))
none_below s pass (suc class) now drains made k few =
    subst (λ (es : List Entry). (replay s es).pending k ≡ []) (sym made.2.0)
    (subst (λ (t : State). t.pending k ≡ []) (sym (replay-append s made.0 made.1))
    (at_last s pass class now made.0 made.1 k made.2.1.1 (none_below s pass class now made.0 made.2.1.0 k) few))

-- nothing is pending after all classes were drained
pub none_pending : (s : State) (pass now : ℕ) (drains : List Entry) → DrainsAll s pass now drains → (k : ℕ) → k < 16 → (replay s drains).pending k ≡ []
unfolding DrainsAll
none_pending s pass now drains all k few = none_below s pass 16 now drains all k few
