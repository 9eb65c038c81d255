-- The values of a bucket in a window.
use Rattle.std.proofs.Common.{◌≡◌, ℕ, ℤ, ◌+◌, ◌-◌, ◌*◌, ◌/◌, ◌%◌, ◌<◌, ◌≤◌, List, length, get_or, take, drop, Option, inl, inr, sym, ap, ◌∙◌, arith}
use Rattle.std.proofs.lemmas.Bool.{cases_lt}
use Rattle.std.proofs.lemmas.List.{get_or-drop, get_or-take}
use Rattle.std.proofs.lemmas.Nat.{div-add-mod', div-mul-add}
use Rattle.std.proofs.Math.Nat.{mul-le-mul_left}
use Rattle.ring_format.specs.Layout.{LayoutValue}
use Rattle.ring_format.specs.Patch.{PatchValue}
use Rattle.ring_archive.specs.Ring.{ReadsAs, Rings, values_from}
use Rattle.archive_update.specs.Batch.{rolled_from, step_of, value_from_finer}
use Rattle.archive_update.specs.Rolled.{HoldsWindow, IsInWindow, known_from, places_in}
use Rattle.archive_update.proofs.RollLemmas.{given_value, read_known, some_archive_at, step_of_found}

-- the way between two multiples is a multiple
multiples_apart : (first bucket step : ℕ) → 1 ≤ step → first ≤ bucket → first % step ≡ 0 → bucket % step ≡ 0 → bucket ≡ first + (bucket - first) / step * step
multiples_apart first bucket step some le from to =
    let one : first ≡ first / step * step = omega (arith, div-add-mod' first step) in
    let two : bucket ≡ bucket / step * step = omega (arith, div-add-mod' bucket step) in
    elim (cases_lt (bucket / step) (first / step)) [
      | inl lt ↦ absurd (let more : step * (bucket / step + 1) ≤ step * (first / step) = mul-le-mul_left step (omega arith) in omega arith)
      | inr ge ↦
          let t : ℕ = bucket / step - first / step in
          let sum : bucket / step ≡ first / step + t = omega arith in
          let product : bucket / step * step ≡ (first / step + t) * step = ap (λ (x : ℕ). x * step) sum in
          let way : bucket - first ≡ t * step + 0 = omega arith in
          let quotient : (bucket - first) / step ≡ t = ap (λ (x : ℕ). x / step) way ∙ div-mul-add t step 0 (omega arith) in
          omega (arith, ap (λ (x : ℕ). x * step) quotient)
    ]

pub window_value : (patch : PatchValue) (layout : LayoutValue) (file : List ℕ) (i first count places step bucket : ℕ) (rings : Rings) (values : List (Option ℤ)) → patch.layout ≡ layout → i + 1 < length layout.archives → ReadsAs patch file rings
    → HoldsWindow layout patch i first count values file → IsInWindow step first count bucket → 1 ≤ step → first % step ≡ 0 → bucket % step ≡ 0 → places ≡ places_in layout i → places * step_of layout.archives i ≡ step
    → rolled_from layout (known_from values ((bucket - first) / step * places) places) places ≡ value_from_finer layout rings i bucket
window_value patch layout file i first count places step bucket rings values same within reads held has some from to is exact =
    let there = some_archive_at layout.archives i (omega arith) in
    let steps : places * there.0.step ≡ step = ap (λ (s : ℕ). places * s) (sym (step_of_found layout.archives i there.0 there.1)) ∙ exact in
    let m : ℕ = (bucket - first) / step in
    let fits : places * (m + 1) ≤ places * count = mul-le-mul_left places (let more : m + 1 ≤ count = omega (arith, has.1) in more) in
    let place : bucket ≡ first + m * places * there.0.step =
    multiples_apart first bucket step some has.0 from to ∙ ap (λ (s : ℕ). first + (bucket - first) / step * s) (sym steps) ∙ omega arith in
    given_value layout rings i bucket places there.0 (known_from values (m * places) places) there.1 is
    (read_known patch layout file i first (count * places) (m * places) places bucket there.0 rings values same there.1 reads (held ∙ ap (λ (n : ℕ). values_from patch file i first (count * n)) (sym is)) (omega arith) place)

-- the first of the buckets from one on
pub first_of_rest : (buckets : List ℕ) (k n : ℕ) → 1 ≤ n → get_or (take n (drop k buckets)) 0 0 ≡ get_or buckets k 0
first_of_rest buckets k n some = get_or-take n (drop k buckets) 0 0 (omega arith) ∙ get_or-drop k buckets 0 0 ∙ ap (λ (i : ℕ). get_or buckets i 0) (omega arith)
