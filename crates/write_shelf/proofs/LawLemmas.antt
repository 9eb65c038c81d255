-- The runs of a patch are its runs, and no others are.
use Rattle.std.proofs.Common.{◌≡◌, ◌∙◌, ℕ, zero, suc, ◌+◌, ◌<◌, ◌≤◌, Bool, true, false, ◌&&◌, ◌==◌, nat_lt, List, [], ◌∷◌, ◌++◌, flat_map, inl, inr, refl, sym, ap, ap₂, subst, arith, All, append_assoc}
use Rattle.std.specs.Map.{keys_of}
use Rattle.std.proofs.lemmas.Bool.{cases_Bool, cond-true, cond-false, and_parts, and_cases, and_from, and_left, eq-eqb, eqb-true, ltb-true, ltb-false, true≢false}
use Rattle.std.proofs.lemmas.List.Elements.{All-cons, All-head, All-nil, All-tail}
use Rattle.std.proofs.lemmas.List.FromFn.{map-range_with_len_more}
use Rattle.ring_format.specs.Patch.{PatchValue}
use Rattle.write_shelf.specs.AreRuns.{AreLongest, AreRuns, IsCellRun, neighbours, places_in}
use Rattle.write_shelf.specs.Runs.{first_runs, last_runs, runs_in, runs_of, runs_on}
use Rattle.write_shelf.specs.declared.run.Run.{Run}
use Rattle.write_shelf.specs.declared.run.Run.TheVariants.{Create, Cells, Head}
use Rattle.write_shelf.proofs.RunLemmas.{ends_full, goes_on}

-- whether a place goes on with a run
abbrev joins : ℕ → ℕ → ℕ → ℕ × ℕ → Bool
joins archive slot count place = (archive == place.0 && slot + count == place.1) && nat_lt count 341

-- ---- each place once

neighbours_more : (archive slot count : ℕ) (place : ℕ × ℕ) (places : List (ℕ × ℕ)) → (archive == place.0 && slot + count == place.1) ≡ true
    → neighbours archive slot (count + 1) ++ places ≡ neighbours archive slot count ++ place ∷ places
neighbours_more archive slot count place places next =
    let parts = and_parts (archive == place.0) (slot + count == place.1) next in
    let here : (archive, slot + count) ≡ place = ap (λ (a : ℕ). (a, slot + count)) (eqb-true archive place.0 parts.0) ∙ ap (λ (s : ℕ). (place.0, s)) (eqb-true (slot + count) place.1 parts.1) in
    ap (λ (xs : List (ℕ × ℕ)). xs ++ places) (map-range_with_len_more (λ (s : ℕ). (archive, s)) slot count (slot + count) refl)
    ∙ append_assoc (neighbours archive slot count) ((archive, slot + count) ∷ []) places
    ∙ ap (λ (p : ℕ × ℕ). neighbours archive slot count ++ p ∷ places) here

each_on : (archive slot count : ℕ) (places : List (ℕ × ℕ)) → flat_map places_in (runs_on archive slot count places) ≡ neighbours archive slot count ++ places
each_on archive slot count [] = refl
each_on archive slot count (place ∷ places) = elim (cases_Bool (joins archive slot count place)) [
  | inl hit ↦
      ap (flat_map places_in) (cond-true _ _ _ hit)
      ∙ each_on archive slot (count + 1) places
      ∙ neighbours_more archive slot count place places (and_parts _ (nat_lt count 341) hit).0
  | inr other ↦
      ap (flat_map places_in) (cond-false _ _ _ other)
      ∙ ap (λ (xs : List (ℕ × ℕ)). neighbours archive slot count ++ xs) (each_on place.0 place.1 1 places)
]

each_in : (places : List (ℕ × ℕ)) → flat_map places_in (runs_in places) ≡ places
each_in [] = refl
each_in (place ∷ places) = each_on place.0 place.1 1 places

-- ---- sizes

sizes_on : (archive slot count : ℕ) (places : List (ℕ × ℕ)) → 1 ≤ count → count ≤ 341 → All IsCellRun (runs_on archive slot count places)
sizes_on archive slot count [] some few = All-cons IsCellRun (Cells archive slot count) [] (some, few) (All-nil IsCellRun)
sizes_on archive slot count (place ∷ places) some few = elim (cases_Bool (joins archive slot count place)) [
  | inl hit ↦
      let room : count < 341 = ltb-true count 341 (and_parts (archive == place.0 && slot + count == place.1) (nat_lt count 341) hit).1 in
      subst (All IsCellRun) (sym (cond-true _ _ _ hit)) (sizes_on archive slot (count + 1) places (omega arith) (omega arith))
  | inr other ↦
      subst (All IsCellRun) (sym (cond-false _ _ _ other))
      (All-cons IsCellRun (Cells archive slot count) (runs_on place.0 place.1 1 places) (some, few) (sizes_on place.0 place.1 1 places (omega arith) (omega arith)))
]

sizes_in : (places : List (ℕ × ℕ)) → All IsCellRun (runs_in places)
sizes_in [] = All-nil IsCellRun
sizes_in (place ∷ places) = sizes_on place.0 place.1 1 places (omega arith) (omega arith)

-- ---- longest

none_longest : AreLongest []
none_longest [] later archive slot count more e = absurd cc
none_longest (run ∷ before) later archive slot count more e = absurd cc

-- the first of two runs is full where the second begins right behind it
more_longest : (archive slot count : ℕ) (runs : List Run) → ((more : ℕ) (later : List Run) → runs ≡ Cells archive (slot + count) more ∷ later → count ≡ 341) → AreLongest runs → AreLongest (Cells archive slot count ∷ runs)
more_longest archive slot count runs full rest [] later a s n more e =
    let first : Cells archive slot count ≡ Cells a s n = cc in
    let second : runs ≡ Cells a (s + n) more ∷ later = cc in
    let same_a : a ≡ archive = cc in
    let same_s : s ≡ slot = cc in
    let same_n : n ≡ count = cc in
    same_n ∙ full more later (second ∙ ap₂ (λ (x y : ℕ). Cells x y more ∷ later) same_a (ap₂ (λ (x y : ℕ). x + y) same_s same_n))
more_longest archive slot count runs full rest (run ∷ before) later a s n more e =
    let tail : runs ≡ before ++ Cells a s n ∷ Cells a (s + n) more ∷ later = cc in
    rest before later a s n more tail

-- where a list of runs begins
begins_at : ℕ → ℕ → List Run → Type 0
begins_at archive slot runs = (count : ℕ) × (later : List Run) × (runs ≡ Cells archive slot count ∷ later)

begins_on : (archive slot count : ℕ) (places : List (ℕ × ℕ)) → begins_at archive slot (runs_on archive slot count places)
unfolding begins_at
begins_on archive slot count [] = (count, [], refl)
begins_on archive slot count (place ∷ places) = elim (cases_Bool (joins archive slot count place)) [
  | inl hit ↦
      let later = begins_on archive slot (count + 1) places in
      (later.0, later.1, cond-true _ _ _ hit ∙ later.2)
  | inr other ↦ (count, runs_on place.0 place.1 1 places, cond-false _ _ _ other)
]

full_before : (archive slot count : ℕ) (place : ℕ × ℕ) (places : List (ℕ × ℕ)) (more : ℕ) (later : List Run) → count ≤ 341 → joins archive slot count place ≡ false
    → runs_on place.0 place.1 1 places ≡ Cells archive (slot + count) more ∷ later → count ≡ 341
unfolding begins_at
full_before archive slot count place places more later few other e =
    let begins = begins_on place.0 place.1 1 places in
    let lists : Cells place.0 place.1 begins.0 ∷ begins.1 ≡ Cells archive (slot + count) more ∷ later = sym begins.2 ∙ e in
    let same : archive ≡ place.0 = cc in
    let next : slot + count ≡ place.1 = cc in
    elim (and_cases (archive == place.0 && slot + count == place.1) (nat_lt count 341) other) [
      | inl apart ↦ absurd (true≢false (sym (and_from (archive == place.0) (slot + count == place.1) (eq-eqb archive place.0 same) (eq-eqb (slot + count) place.1 next)) ∙ apart))
      | inr full ↦ omega (arith, ltb-false count 341 full)
    ]

longest_on : (archive slot count : ℕ) (places : List (ℕ × ℕ)) → count ≤ 341 → AreLongest (runs_on archive slot count places)
longest_on archive slot count [] few = more_longest archive slot count [] (λ more later e. absurd cc) none_longest
longest_on archive slot count (place ∷ places) few = elim (cases_Bool (joins archive slot count place)) [
  | inl hit ↦
      let room : count < 341 = ltb-true count 341 (and_parts (archive == place.0 && slot + count == place.1) (nat_lt count 341) hit).1 in
      subst AreLongest (sym (cond-true _ _ _ hit)) (longest_on archive slot (count + 1) places (omega arith))
  | inr other ↦
      subst AreLongest (sym (cond-false _ _ _ other))
      (more_longest archive slot count (runs_on place.0 place.1 1 places) (λ more later e. full_before archive slot count place places more later few other e) (longest_on place.0 place.1 1 places (omega arith)))
]

longest_in : (places : List (ℕ × ℕ)) → AreLongest (runs_in places)
longest_in [] = none_longest
longest_in (place ∷ places) = longest_on place.0 place.1 1 places (omega arith)

pub are_runs : (patch : PatchValue) → AreRuns patch (runs_of patch)
are_runs patch = record {
  between = runs_in (keys_of patch.cells);
  order = refl;
  each = each_in (keys_of patch.cells);
  sizes = sizes_in (keys_of patch.cells);
  longest = longest_in (keys_of patch.cells);
}

-- ---- no others

-- neighbours go on with a run
neighbours_on : (archive slot count k : ℕ) (places : List (ℕ × ℕ)) → count + k ≤ 341 → runs_on archive slot count (neighbours archive (slot + count) k ++ places) ≡ runs_on archive slot (count + k) places
neighbours_on archive slot count zero places few =
    let same : count ≡ count + 0 = omega arith in
    ap (λ (n : ℕ). runs_on archive slot n places) same
neighbours_on archive slot count (suc k) places few =
    let placed : (slot + count) + 1 ≡ slot + (count + 1) = omega arith in
    let counted : (count + 1) + k ≡ count + suc k = omega arith in
    goes_on archive slot count (neighbours archive ((slot + count) + 1) k ++ places) (omega arith)
    ∙ ap (λ (s : ℕ). runs_on archive slot (count + 1) (neighbours archive s k ++ places)) placed
    ∙ neighbours_on archive slot (count + 1) k places (omega arith)
    ∙ ap (λ (n : ℕ). runs_on archive slot n places) counted

-- a run of these longest runs ends where the next one begins
ends_there : (archive slot count : ℕ) (runs : List Run) → All IsCellRun runs → AreLongest (Cells archive slot count ∷ runs)
    → runs_on archive slot count (flat_map places_in runs) ≡ Cells archive slot count ∷ runs_in (flat_map places_in runs)
ends_there archive slot count [] sizes longest = refl
ends_there archive slot count (Create size ∷ runs) sizes longest = absurd (All-head IsCellRun (Create size) runs sizes)
ends_there archive slot count (Head ∷ runs) sizes longest = absurd (All-head IsCellRun Head runs sizes)
ends_there archive slot count (Cells a s zero ∷ runs) sizes longest =
    let some : 1 ≤ 0 = (All-head IsCellRun (Cells a s zero) runs sizes).0 in
    absurd (omega arith)
ends_there archive slot count (Cells a s (suc n) ∷ runs) sizes longest = elim (cases_Bool (archive == a && slot + count == s)) [
  | inl next ↦
      let parts = and_parts (archive == a) (slot + count == s) next in
      let behind : Cells a s (suc n) ≡ Cells archive (slot + count) (suc n) = ap₂ (λ (x y : ℕ). Cells x y (suc n)) (sym (eqb-true archive a parts.0)) (sym (eqb-true (slot + count) s parts.1)) in
      let full : count ≡ 341 = longest [] runs archive slot count (suc n) (ap (λ (run : Run). Cells archive slot count ∷ run ∷ runs) behind) in
      ends_full archive slot count (flat_map places_in (Cells a s (suc n) ∷ runs)) (ap (λ (m : ℕ). nat_lt m 341) full)
  | inr apart ↦ cond-false _ _ _ (and_left (archive == a && slot + count == s) (nat_lt count 341) apart)
]

tail_longest : (run : Run) (runs : List Run) → AreLongest (run ∷ runs) → AreLongest runs
tail_longest run runs longest = λ before later archive slot count more e. longest (run ∷ before) later archive slot count more (ap (λ (xs : List Run). run ∷ xs) e)

only_runs_in : (runs : List Run) → All IsCellRun runs → AreLongest runs → runs ≡ runs_in (flat_map places_in runs)
only_runs_in [] sizes longest = refl
only_runs_in (Create size ∷ runs) sizes longest = absurd (All-head IsCellRun (Create size) runs sizes)
only_runs_in (Head ∷ runs) sizes longest = absurd (All-head IsCellRun Head runs sizes)
only_runs_in (Cells archive slot zero ∷ runs) sizes longest =
    let some : 1 ≤ 0 = (All-head IsCellRun (Cells archive slot zero) runs sizes).0 in
    absurd (omega arith)
only_runs_in (Cells archive slot (suc n) ∷ runs) sizes longest =
    let few : suc n ≤ 341 = (All-head IsCellRun (Cells archive slot (suc n)) runs sizes).1 in
    let rest : List (ℕ × ℕ) = flat_map places_in runs in
    let counted : 1 + n ≡ suc n = omega arith in
    let later = only_runs_in runs (All-tail IsCellRun (Cells archive slot (suc n)) runs sizes) (tail_longest (Cells archive slot (suc n)) runs longest) in
    ap (λ (xs : List Run). Cells archive slot (suc n) ∷ xs) later
    ∙ sym (ends_there archive slot (suc n) runs (All-tail IsCellRun (Cells archive slot (suc n)) runs sizes) longest)
    ∙ ap (λ (m : ℕ). runs_on archive slot m rest) (sym counted)
    ∙ sym (neighbours_on archive slot 1 n rest (omega arith))

pub only_runs : (patch : PatchValue) (runs : List Run) → AreRuns patch runs → runs ≡ runs_of patch
only_runs patch runs are =
    are.order ∙ ap (λ (between : List Run). first_runs patch ++ (between ++ last_runs patch)) (only_runs_in are.between are.sizes are.longest ∙ ap runs_in are.each)
