-- The steps of a lawful layout: each divides the later ones.
use Rattle.std.proofs.Common.{◌≡◌, ℕ, ℤ, zero, suc, ◌+◌, ◌*◌, ◌/◌, ◌%◌, ◌<◌, ◌≤◌, false, List, [], ◌∷◌, length, get_or, drop, All, Some, None, inl, inr, refl, sym, ap, ◌∙◌, arith}
use Rattle.std.specs.Prelude.{slice_get}
use Rattle.std.proofs.lemmas.Bool.{cases_lt}
use Rattle.std.proofs.lemmas.Bool.Decides.{nat_tests}
use Rattle.std.proofs.lemmas.Grind.{get_or_after_one}
use Rattle.std.proofs.lemmas.List.{length-drop}
use Rattle.std.proofs.lemmas.List.Elements.{All-weaker}
use Rattle.std.proofs.lemmas.Nat.{div-add-mod'}
use Rattle.std.proofs.lemmas.Slice.Zip.{get_or-zip, length-zip}
use Rattle.std.proofs.Math.Nat.{mod_self, mul-mod_left}
use Rattle.ring_format.specs.declared.archive.Archive.{Archive}
use Rattle.ring_format.specs.Layout.{layout_fault, neighbours, does_not_divide}
use Rattle.ring_format.proofs.FewArchives.{none_passes}
use Rattle.ring_format.proofs.LawfulLayouts.{archive_bounds, lawful_rules}
use Rattle.archive_update.specs.Batch.{bucket_of, step_of}
use Rattle.archive_update.specs.Buckets.{IsOwn, IsShown}
use Rattle.archive_update.specs.Rolled.{IsReached}

step_is : (archives : List Archive) (i : ℕ) (d : Archive) → i < length archives → step_of archives i ≡ (get_or archives i d).step
step_is [] i d lt = absurd (omega arith)
step_is (a ∷ archives) zero d lt = refl
step_is (a ∷ archives) (suc i) d lt = step_is archives i d (omega arith)

multiple_of_multiple : (a b c : ℕ) → a % b ≡ 0 → b % c ≡ 0 → a % c ≡ 0
multiple_of_multiple a b c first second =
    let one : a ≡ a / b * b = omega (arith, div-add-mod' a b) in
    let two : b ≡ b / c * c = omega (arith, div-add-mod' b c) in
    let both : a ≡ (a / b * (b / c)) * c = one ∙ ap (λ (x : ℕ). a / b * x) two ∙ omega arith in
    ap (λ (x : ℕ). x % c) both ∙ mul-mod_left (a / b * (b / c)) c

next_divides : (archives : List Archive) (factor k : ℕ) (d : Archive) → layout_fault archives factor ≡ None → suc k < length archives → (get_or archives (suc k) d).step % (get_or archives k d).step ≡ 0
next_divides archives factor k d lawful within =
    let rules = lawful_rules archives factor lawful in
    let next : get_or (drop 1 archives) k d ≡ get_or archives (suc k) d = get_or_after_one archives k d ∙ ap (λ (n : ℕ). get_or archives n d) (omega arith) in
    let pair : get_or (neighbours archives) k (d, d) ≡ (get_or archives k d, get_or archives (suc k) d) = get_or-zip archives (drop 1 archives) k (d, d) (omega arith) (omega (arith, length-drop 1 archives)) ∙ rw next refl in
    let few : k < length (neighbours archives) = omega (arith, length-zip archives (drop 1 archives), length-drop 1 archives) in
    let divides : does_not_divide (get_or archives k d, get_or archives (suc k) d) ≡ false = ap does_not_divide (sym pair) ∙ none_passes does_not_divide (neighbours archives) (d, d) rules.divides k few in
    grind (arith, nat_tests)

later_divides : (archives : List Archive) (factor i k : ℕ) (d : Archive) → layout_fault archives factor ≡ None → i ≤ k → k < length archives → (get_or archives k d).step % (get_or archives i d).step ≡ 0
later_divides archives factor i zero d lawful le lt = let same : i ≡ 0 = omega arith in rw same (mod_self (get_or archives 0 d).step)
later_divides archives factor i (suc k) d lawful le lt = elim (cases_lt i (suc k)) [
  | inl less ↦ multiple_of_multiple (get_or archives (suc k) d).step (get_or archives k d).step (get_or archives i d).step (next_divides archives factor k d lawful lt) (later_divides archives factor i k d lawful (omega arith) (omega arith))
  | inr ge ↦ let same : i ≡ suc k = omega arith in rw same (mod_self (get_or archives (suc k) d).step)
]

-- the own writes of an archive are in reach of each coarser one
pub own_reached : (archives : List Archive) (factor i k : ℕ) (own : List (ℕ × ℤ)) → layout_fault archives factor ≡ None → i ≤ k → k < length archives → All (λ write. IsOwn (step_of archives i) write.0) own
    → All (λ write. IsReached (step_of archives k) write.0) own
own_reached archives factor i k own lawful le lt all =
    let d : Archive = record { step = 0; points = 0 } in
    let divides : step_of archives k % step_of archives i ≡ 0 = rw (step_is archives i d (omega arith), step_is archives k d lt) (later_divides archives factor i k d lawful le lt) in
    let most : step_of archives k ≤ 31536000 = omega (arith, step_is archives k d lt, (archive_bounds archives factor k d lawful lt).1) in
    All-weaker (λ write. IsOwn (step_of archives i) write.0) (λ write. IsReached (step_of archives k) write.0) (λ write is. (is.reaches (step_of archives k) divides most, is.shown.most)) own all

-- the bucket of a coarser archive that such a write is in
pub reached_bucket : (step bucket : ℕ) → 1 ≤ step → IsReached step bucket → IsShown step (bucket_of step bucket)
reached_bucket step bucket some reached =
    let whole = div-add-mod' bucket step in
    let small : bucket % step < step = omega arith in
    let product : bucket_of step bucket ≡ bucket / step * step = omega arith in
    record { multiple = (omega (arith, reached.0), ap (λ (x : ℕ). x % step) product ∙ mul-mod_left (bucket / step) step); most = omega (arith, reached.1) }

step_at : (archives : List Archive) (i : ℕ) (archive d : Archive) → slice_get archives i ≡ Some archive → i < length archives → (get_or archives i d).step ≡ archive.step
step_at archives i archive d found lt = sym (step_is archives i d lt) ∙ rw found refl

-- an archive's step covers places of the one before it
pub covers_exactly : (archives : List Archive) (factor i : ℕ) (finer coarser : Archive) → layout_fault archives factor ≡ None → i + 1 < length archives → slice_get archives i ≡ Some finer → slice_get archives (i + 1) ≡ Some coarser
    → coarser.step / finer.step * finer.step ≡ coarser.step
covers_exactly archives factor i finer coarser lawful lt here next =
    let divides : (get_or archives (suc i) finer).step % (get_or archives i finer).step ≡ 0 = next_divides archives factor i finer lawful (omega arith) in
    let second : (get_or archives (suc i) finer).step ≡ coarser.step = ap (λ (n : ℕ). (get_or archives n finer).step) (omega arith) ∙ step_at archives (i + 1) coarser finer next lt in
    let exact : coarser.step % finer.step ≡ 0 = sym (ap (λ (s : ℕ). s % finer.step) second) ∙ sym (ap (λ (s : ℕ). (get_or archives (suc i) finer).step % s) (step_at archives i finer finer here (omega arith))) ∙ divides in
    omega (arith, div-add-mod' coarser.step finer.step, exact)

pub some_places : (finer coarser places : ℕ) → places * finer ≡ coarser → 1 ≤ coarser → 1 ≤ places
some_places finer coarser zero e some = absurd (let none : 0 * finer ≡ coarser = e in omega arith)
some_places finer coarser (suc places) e some = omega arith
