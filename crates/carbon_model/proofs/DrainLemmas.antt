-- The drains of a class follow from the state that they begin in.
use Rattle.std.proofs.Common.{◌≡◌, inl, inr, ◌⊎◌, ◌∙◌, ℕ, List, [], ◌∷◌, ◌++◌, Option, Some, None, refl, sym, ap, subst, is_some, true≢false, unwrap_or}
use Rattle.carbon_history.specs.declared.entry.Entry.{Entry}
use Rattle.carbon_history.specs.declared.entry.Entry.TheVariants.{Put, Drain, Ask, Fault}
use Rattle.carbon_model.specs.State.{State, picked}
use Rattle.carbon_model.specs.Replay.{DrainsSome, IsDrainOf, IsLegal, after, replay}

none_is_some : {A : Type 0} {x : A} → None ≡ Some x → ⊥
none_is_some e = true≢false (sym (ap is_some e))

-- a legal drain of a class is of the path that it picks
drain_is_picked : (s : State) (pass class now : ℕ) (e : Entry) → IsDrainOf pass class now e → IsLegal s e → (path : List ℕ) × ((picked s class ≡ Some path) × (e ≡ Drain pass path now))
drain_is_picked s pass class now (Put by path time value end) is legal = absurd is
drain_is_picked s pass class now (Drain by path at) is legal = (
  path,
  (subst (λ (k : ℕ). picked s k ≡ Some path) is.1.0 legal, ap (λ (n : ℕ). Drain n path at) is.0 ∙ ap (λ (n : ℕ). Drain pass path n) is.1.1),
)
drain_is_picked s pass class now (Ask by number try at) is legal = absurd is
drain_is_picked s pass class now (Fault by of_class) is legal = absurd is

-- so two of them are one
same_drain : (s : State) (pass class now : ℕ) (x y : Entry) → IsDrainOf pass class now x → IsLegal s x → IsDrainOf pass class now y → IsLegal s y → x ≡ y
same_drain s pass class now x y is_x legal_x is_y legal_y =
    let one = drain_is_picked s pass class now x is_x legal_x in
    let other = drain_is_picked s pass class now y is_y legal_y in
    let same : one.0 ≡ other.0 = ap (λ (o : Option (List ℕ)). unwrap_or o one.0) (sym one.1.0 ∙ other.1.0) in
    one.1.1 ∙ ap (λ (path : List ℕ). Drain pass path now) same ∙ sym other.1.1

-- of two lists of drains of a class one is a front of the other
pub one_goes_on : (s : State) (pass class now : ℕ) (xs ys : List Entry) → DrainsSome s pass class now xs → DrainsSome s pass class now ys
    → (rest : List Entry) × ((ys ≡ xs ++ rest) ⊎ (xs ≡ ys ++ rest))
one_goes_on s pass class now [] ys some_x some_y = (ys, inl refl)
one_goes_on s pass class now (x ∷ xs) [] some_x some_y = (x ∷ xs, inr refl)
one_goes_on s pass class now (x ∷ xs) (y ∷ ys) some_x some_y =
    let same = same_drain s pass class now x y some_x.0 some_x.1.0 some_y.0 some_y.1.0 in
    let there = subst (λ (e : Entry). DrainsSome (after s e) pass class now ys) (sym same) some_y.1.1 in
    let more = one_goes_on (after s x) pass class now xs ys some_x.1.1 there in (
      more.0,
      elim more.1 [
        | inl front ↦ inl (ap (λ (e : Entry). e ∷ ys) (sym same) ∙ ap (λ (es : List Entry). x ∷ es) front)
        | inr front ↦ inr (ap (λ (es : List Entry). x ∷ es) front ∙ ap (λ (e : Entry). e ∷ (ys ++ more.0)) same)
      ],
    )

-- where nothing is picked after either, they are one
pub one_list : (s : State) (pass class now : ℕ) (xs ys : List Entry) → DrainsSome s pass class now xs → DrainsSome s pass class now ys
    → picked (replay s xs) class ≡ None → picked (replay s ys) class ≡ None → xs ≡ ys
one_list s pass class now [] [] some_x some_y none_x none_y = refl
one_list s pass class now [] (y ∷ ys) some_x some_y none_x none_y =
    absurd (none_is_some (sym none_x ∙ (drain_is_picked s pass class now y some_y.0 some_y.1.0).1.0))
one_list s pass class now (x ∷ xs) [] some_x some_y none_x none_y =
    absurd (none_is_some (sym none_y ∙ (drain_is_picked s pass class now x some_x.0 some_x.1.0).1.0))
one_list s pass class now (x ∷ xs) (y ∷ ys) some_x some_y none_x none_y =
    let same = same_drain s pass class now x y some_x.0 some_x.1.0 some_y.0 some_y.1.0 in
    let there = subst (λ (e : Entry). DrainsSome (after s e) pass class now ys) (sym same) some_y.1.1 in
    let none = subst (λ (e : Entry). picked (replay (after s e) ys) class ≡ None) (sym same) none_y in
    ap (λ (es : List Entry). x ∷ es) (one_list (after s x) pass class now xs ys some_x.1.1 there none_x none)
    ∙ ap (λ (e : Entry). e ∷ ys) same
