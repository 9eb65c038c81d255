-- A history is woven of what it has of each of its passes.
use Rattle.std.proofs.Common.{◌≡◌, ◌==◌, ◌∙◌, inl, inr, ℕ, zero, suc, ◌<◌, ◌≤◌, List, [], ◌∷◌, ◌++◌, length, Some, refl, sym, ap, subst, arith, length-append}
use Rattle.std.specs.Prelude.{slice_get, slice_set}
use Rattle.std.proofs.lemmas.Bool.{cases_lt, cases_order}
use Rattle.std.proofs.lemmas.Bool.Decides.{eqb_tells}
use Rattle.std.proofs.lemmas.List.{length-set}
use Rattle.std.proofs.lemmas.Option.{get_or_from_slice_get}
use Rattle.carbon_history.specs.declared.entry.Entry.{Entry}
use Rattle.carbon_history.specs.Entries.{NamesPasses, of_pass, pass_of}
use Rattle.carbon_serve.specs.Headline.{IsWovenOf, parts_of}
use Rattle.carbon_serve.proofs.EntryLemmas.{none_behind, other_front, own_front}
use Rattle.carbon_serve.proofs.PassLemmas.{slice_front, slice_last}

-- ---- places

get_set_same : {X : Type 0} (xs : List X) (k : ℕ) (y : X) → k < length xs → slice_get (slice_set xs k y) k ≡ Some y
get_set_same [] k y few = absurd (omega (arith, few))
get_set_same (x ∷ xs) zero y few = refl
get_set_same (x ∷ xs) (suc k) y few = get_set_same xs k y (omega (arith, few))

get_set_other : {X : Type 0} (xs : List X) (k j : ℕ) (y : X) → (j ≡ k → ⊥) → slice_get (slice_set xs k y) j ≡ slice_get xs j
get_set_other [] k j y other = refl
get_set_other (x ∷ xs) zero zero y other = absurd (other refl)
get_set_other (x ∷ xs) zero (suc j) y other = refl
get_set_other (x ∷ xs) (suc k) zero y other = refl
get_set_other (x ∷ xs) (suc k) (suc j) y other = get_set_other xs k j y (λ same. other (ap (λ (n : ℕ). suc n) same))

-- ---- entries

-- these are what so many passes have of a list
record Left (passes : ℕ) (parts : List (List Entry)) (es : List Entry) : Type 0 where
  count : length parts ≡ passes
  each : (k : ℕ) → k < passes → slice_get parts k ≡ Some (of_pass k es)

-- the first entry is of one of them
made : (passes : ℕ) (e : Entry) (es : List Entry) → NamesPasses passes (e ∷ es) → pass_of e < passes
made passes e es names = elim (cases_order (pass_of e) passes) [
  | inl same ↦ late (omega (arith, same))
  | inr differs ↦ elim differs [
    | inl few ↦ few
    | inr more ↦ late (omega (arith, more))
  ]
]
  where
    late : passes ≤ pass_of e → pass_of e < passes
    late le = let bad : e ∷ of_pass (pass_of e) es ≡ [] = sym (own_front e es) ∙ names.none_else (pass_of e) le in absurd cc

names_behind : (passes : ℕ) (e : Entry) (es : List Entry) → NamesPasses passes (e ∷ es) → NamesPasses passes es
names_behind passes e es names = record { none_else = λ k le. none_behind (λ (x : Entry). pass_of x == k) e es (names.none_else k le) }

weave : (passes : ℕ) (es : List Entry) (parts : List (List Entry)) → NamesPasses passes es → Left passes parts es → IsWovenOf parts es
weave passes [] parts names left = λ k d few. get_or_from_slice_get parts k [] d (left.each k (omega (arith, few, left.count)))
weave passes (e ∷ es) parts names left =
    let k : ℕ = pass_of e in
    let rest : List Entry = of_pass k es in
    let within : k < passes = made passes e es names in
    let at : slice_get parts k ≡ Some (e ∷ rest) = left.each k within ∙ ap (λ (l : List Entry). Some l) (own_front e es) in
    let behind : Left passes (slice_set parts k rest) es = record {
      count = length-set parts k rest ∙ left.count;
      each = λ j few. elim (eqb_tells j k) [
        | inl same ↦
            subst (λ (n : ℕ). slice_get (slice_set parts k rest) n ≡ Some (of_pass n es)) (sym same.1) (get_set_same parts k rest (omega (arith, within, left.count)))
        | inr other ↦
            get_set_other parts k j rest other.1
            ∙ (left.each j few ∙ ap (λ (l : List Entry). Some l) (other_front e es j (λ same. other.1 (sym same))))
      ];
    } in (k, rest, (at, weave passes es (slice_set parts k rest) (names_behind passes e es names) behind))

-- ---- all passes

parts_count : (count : ℕ) (es : List Entry) → length (parts_of count es) ≡ count
parts_count zero es = refl
parts_count (suc count) es = omega (arith, length-append (parts_of count es) (of_pass count es ∷ []), parts_count count es)

earlier : (k count : ℕ) → k < suc count → (k ≡ count → ⊥) → k < count
earlier k count within other = elim (cases_lt k count) [
  | inl less ↦ less
  | inr more ↦ absurd (other (omega (arith, within, more)))
]

parts_at : (count : ℕ) (es : List Entry) (k : ℕ) → k < count → slice_get (parts_of count es) k ≡ Some (of_pass k es)
parts_at zero es k few = absurd (omega (arith, few))
parts_at (suc count) es k few = elim (eqb_tells k count) [
  | inl same ↦
      subst (λ (j : ℕ). slice_get (parts_of count es ++ of_pass count es ∷ []) j ≡ Some (of_pass j es)) (sym same.1)
      (subst (λ (j : ℕ). slice_get (parts_of count es ++ of_pass count es ∷ []) j ≡ Some (of_pass count es)) (parts_count count es) (slice_last (parts_of count es) (of_pass count es)))
  | inr other ↦
      slice_front (parts_of count es) (of_pass count es ∷ []) k (of_pass k es) (parts_at count es k (earlier k count few other.1))
]

pub woven : (passes : ℕ) (history : List Entry) → NamesPasses passes history → IsWovenOf (parts_of passes history) history
woven passes history names =
    weave passes history (parts_of passes history) names (record { count = parts_count passes history; each = λ k few. parts_at passes history k few })
