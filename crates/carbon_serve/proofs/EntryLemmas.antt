-- Entries by the passes that made them.
use Rattle.std.proofs.Common.{◌≡◌, ◌==◌, ◌∙◌, inl, inr, ℕ, ◌+◌, Bool, true, false, cond, List, [], ◌∷◌, ◌++◌, length, refl, sym, ap, subst, arith, append-nil, length-append}
use Rattle.std.specs.Prelude.{All, filter}
use Rattle.std.proofs.lemmas.Bool.Decides.{eqb_tells}
use Rattle.std.proofs.lemmas.List.Elements.{All-cons, All-head, All-nil, All-tail, filter-append}
use mathlib.Core.List.{IsPrefix}
use Rattle.carbon_history.specs.declared.entry.Entry.{Entry}
use Rattle.carbon_history.specs.Entries.{of_pass, pass_of}

pub same_number : (k : ℕ) → (k == k) ≡ true
same_number k = elim (eqb_tells k k) [
  | inl same ↦ same.0
  | inr other ↦ absurd (other.1 refl)
]

other_number : (j k : ℕ) → (j ≡ k → ⊥) → (j == k) ≡ false
other_number j k other = elim (eqb_tells j k) [
  | inl same ↦ absurd (other same.1)
  | inr differs ↦ differs.0
]

-- the pass of an entry has it
pub own_front : (e : Entry) (es : List Entry) → of_pass (pass_of e) (e ∷ es) ≡ e ∷ of_pass (pass_of e) es
own_front e es = rw (same_number (pass_of e)) refl

-- and no other pass has
pub other_front : (e : Entry) (es : List Entry) (k : ℕ) → (pass_of e ≡ k → ⊥) → of_pass k (e ∷ es) ≡ of_pass k es
other_front e es k other = rw (other_number (pass_of e) k other) refl

-- entries of no pass are none
pub no_entries : (es : List Entry) → ((k : ℕ) → of_pass k es ≡ []) → es ≡ []
no_entries [] none = refl
no_entries (e ∷ es) none = let bad : e ∷ of_pass (pass_of e) es ≡ [] = sym (own_front e es) ∙ none (pass_of e) in absurd cc

-- where a test passes none of a list, it passes none of its rest
pub none_behind : {X : Type 0} (f : X → Bool) (x : X) (xs : List X) → filter f (x ∷ xs) ≡ [] → filter f xs ≡ []
none_behind {X} f x xs none = by (f x) none
  where
    by : (b : Bool) → cond b (x ∷ filter f xs) (filter f xs) ≡ [] → filter f xs ≡ []
    by true none = absurd cc
    by false none = none

-- entries of one pass alone are all its own
pub one_pass : (pass : ℕ) (es : List Entry) → ((k : ℕ) → (k ≡ pass → ⊥) → of_pass k es ≡ []) → of_pass pass es ≡ es
one_pass pass [] others = refl
one_pass pass (e ∷ es) others =
    let rest : of_pass pass es ≡ es = one_pass pass es (λ k other. none_behind (λ (x : Entry). pass_of x == k) e es (others k other)) in
    elim (eqb_tells (pass_of e) pass) [
      | inl same ↦ rw same.0 (ap (λ (xs : List Entry). e ∷ xs) rest)
      | inr differs ↦
          let bad : e ∷ of_pass (pass_of e) es ≡ [] = sym (own_front e es) ∙ others (pass_of e) differs.1 in absurd cc
    ]

-- what holds of those that a test passes, holds of those of the rest
all_behind : {X : Type 0} (P : X → Type 0) (f : X → Bool) (x : X) (xs : List X) → All P (filter f (x ∷ xs)) → All P (filter f xs)
all_behind {X} P f x xs all = by (f x) all
  where
    by : (b : Bool) → All P (cond b (x ∷ filter f xs) (filter f xs)) → All P (filter f xs)
    by true all = All-tail P x (filter f xs) all
    by false all = all

-- what holds of the entries of each pass holds of all
pub all_by_pass : (P : Entry → Type 0) (es : List Entry) → ((k : ℕ) → All P (of_pass k es)) → All P es
all_by_pass P [] each = All-nil P
all_by_pass P (e ∷ es) each =
    All-cons P e es (All-head P e (of_pass (pass_of e) es) (subst (All P) (own_front e es) (each (pass_of e))))
    (all_by_pass P es (λ k. all_behind P (λ (x : Entry). pass_of x == k) e es (each k)))

-- a list that is no longer than its front has nothing behind it
nothing_behind : {X : Type 0} (xs ys : List X) → xs ++ ys ≡ xs → ys ≡ []
nothing_behind xs [] same = refl
nothing_behind xs (y ∷ ys) same = absurd (omega (arith, ap (λ (zs : List _). length zs) same, length-append xs (y ∷ ys)))

-- a pass that made as many entries in a front as in all made none behind it
pub none_more : (pass : ℕ) (front rest : List Entry) → of_pass pass (front ++ rest) ≡ of_pass pass front → of_pass pass rest ≡ []
none_more pass front rest same =
    nothing_behind (of_pass pass front) (of_pass pass rest) (sym (filter-append (λ (e : Entry). pass_of e == pass) front rest) ∙ same)

-- a front of a front has all entries of a pass, so the front has them
pub squeezed : (pass : ℕ) (low mid high : List Entry) → IsPrefix low mid → IsPrefix mid high → of_pass pass high ≡ of_pass pass low → of_pass pass high ≡ of_pass pass mid
squeezed pass low mid high first next same =
    let f : Entry → Bool = λ e. pass_of e == pass in
    let mids : of_pass pass low ++ of_pass pass first.0 ≡ of_pass pass mid = sym (filter-append f low first.0) ∙ ap (of_pass pass) first.1 in
    let highs : of_pass pass mid ++ of_pass pass next.0 ≡ of_pass pass high = sym (filter-append f mid next.0) ∙ ap (of_pass pass) next.1 in
    let count_mid : length (of_pass pass low) + length (of_pass pass first.0) ≡ length (of_pass pass mid) =
    sym (length-append (of_pass pass low) (of_pass pass first.0)) ∙ ap (λ (es : List Entry). length es) mids in
    let count_high : length (of_pass pass mid) + length (of_pass pass next.0) ≡ length (of_pass pass high) =
    sym (length-append (of_pass pass mid) (of_pass pass next.0)) ∙ ap (λ (es : List Entry). length es) highs in
    let count_all : length (of_pass pass high) ≡ length (of_pass pass low) = ap (λ (es : List Entry). length es) same in
    let none : length (of_pass pass next.0) ≡ 0 = omega (arith, count_mid, count_high, count_all) in
    sym highs ∙ (ap (λ (es : List Entry). of_pass pass mid ++ es) (empty (of_pass pass next.0) none) ∙ append-nil (of_pass pass mid))
  where
    empty : (es : List Entry) → length es ≡ 0 → es ≡ []
    empty [] none = refl
    empty (e ∷ es) none = absurd (omega (arith, none))
