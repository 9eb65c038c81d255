-- A list has as many entries as its passes have together.
use Rattle.std.proofs.Common.{◌≡◌, ◌≢◌, ℕ, zero, suc, ◌+◌, ◌*◌, ◌%◌, ◌^◌, ◌<◌, ◌≤◌, Bool, cond, List, [], ◌∷◌, length, refl, ap, arith, eq-eqb, ne_eqb}
use native.Mathlib.Decide.{ℕ_discrete, dec_le}
use Rattle.carbon_history.specs.declared.entry.Entry.{Entry}
use Rattle.carbon_history.specs.Entries.{NamesPasses, of_pass, pass_of}
use Rattle.shared_history.specs.Rule.{Book, Known, whole}

-- how many entries the first passes have, so many
abbrev pub total : ℕ → List Entry → ℕ
total zero entries = 0
total (suc pass) entries = total pass entries + length (of_pass pass entries)

no_entries : (xs : List Entry) → length xs ≡ 0 → xs ≡ []
no_entries [] e = refl
no_entries (x ∷ xs) e = absurd (omega (arith, e))

total_none : (passes : ℕ) → 0 ≡ total passes []
total_none zero = refl
total_none (suc pass) = let e = total_none pass in omega (arith, e)

module _ (entry : Entry) (entries : List Entry) where
  one_more : (pass : ℕ) → pass_of entry ≡ pass → length (of_pass pass (entry ∷ entries)) ≡ length (of_pass pass entries) + 1
  one_more pass same =
      let e = ap (λ (b : Bool). length (cond b (entry ∷ of_pass pass entries) (of_pass pass entries))) (eq-eqb (pass_of entry) pass same) in omega (arith, e)

  as_many : (pass : ℕ) → pass_of entry ≢ pass → length (of_pass pass (entry ∷ entries)) ≡ length (of_pass pass entries)
  as_many pass other = ap (λ (b : Bool). length (cond b (entry ∷ of_pass pass entries) (of_pass pass entries))) (ne_eqb (pass_of entry) pass other)

  not_fewer : (pass : ℕ) → length (of_pass pass entries) ≤ length (of_pass pass (entry ∷ entries))
  not_fewer pass = elim (ℕ_discrete (pass_of entry) pass) [
    | yes same ↦ let e = one_more pass same in omega (arith, e)
    | no other ↦ let e = as_many pass other in omega (arith, e)
  ]

  total_else : (passes : ℕ) → passes ≤ pass_of entry → total passes (entry ∷ entries) ≡ total passes entries
  total_else zero late = refl
  total_else (suc pass) late =
      let before = total_else pass (omega (arith, late)) in
      let here = as_many pass (λ same. omega (arith, late, same)) in
      omega (arith, before, here)

  total_more : (passes : ℕ) → pass_of entry < passes → total passes (entry ∷ entries) ≡ total passes entries + 1
  total_more zero early = absurd (omega (arith, early))
  total_more (suc pass) early = elim (ℕ_discrete (pass_of entry) pass) [
    | yes same ↦
        let before = total_else pass (omega (arith, same)) in
        let here = one_more pass same in
        omega (arith, before, here)
    | no other ↦
        let before = total_more pass (omega (arith, early, other)) in
        let here = as_many pass other in
        omega (arith, before, here)
  ]

  named_before : (passes : ℕ) → NamesPasses passes (entry ∷ entries) → pass_of entry < passes
  named_before passes names = elim (dec_le passes (pass_of entry)) [
    | yes late ↦ let none = ap length (names.none_else (pass_of entry) late) in let one = one_more (pass_of entry) refl in absurd (omega (arith, none, one))
    | no early ↦ omega (arith, early)
  ]

  named_behind : (passes : ℕ) → NamesPasses passes (entry ∷ entries) → NamesPasses passes entries
  named_behind passes names = record {
    none_else = λ pass late.
        let none = ap length (names.none_else pass late) in
        let less = not_fewer pass in
        no_entries (of_pass pass entries) (omega (arith, none, less));
  }

pub total_whole : (passes : ℕ) (entries : List Entry) → NamesPasses passes entries → length entries ≡ total passes entries
total_whole passes [] names = total_none passes
total_whole passes (entry ∷ entries) names =
    let behind = total_whole passes entries (named_behind entry entries passes names) in
    let here = total_more entry entries passes (named_before entry entries passes names) in
    omega (arith, behind, here)

total_few : (passes : ℕ) (entries : List Entry) → ((pass : ℕ) → length (of_pass pass entries) ≤ 2 ^ 48) → total passes entries ≤ passes * 2 ^ 48
total_few zero entries few = omega arith
total_few (suc pass) entries few = let before = total_few pass entries few in let here = few pass in omega (arith, before, here)

-- so the history never has 2^64 of them
pub few_entries : (b : Book) → Known b → length (whole b) < 2 ^ 64
few_entries b known =
    let all = total_whole b.passes (whole b) (record { none_else = known.no_pass }) in
    let few = total_few b.passes (whole b) known.few in
    let passes = known.few_passes in
    omega (arith, all, few, passes)

pub exact : (b : Book) → Known b → length (whole b) % 2 ^ 64 ≡ length (whole b)
exact b known = let few = few_entries b known in omega (arith, few)
