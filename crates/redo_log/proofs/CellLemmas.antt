-- The cells of a body: how many there are, and how they are written and laid.
use Rattle.std.proofs.Common.{◌≡◌, ◌∙◌, ℕ, suc, ℤ, ◌+◌, ◌-◌, ◌*◌, ◌/◌, min, ◌<◌, ◌≤◌, ◌^◌, true, List, [], ◌∷◌, ◌++◌, length, take, get_or, insert, slice_get, Option, Some, refl, sym, ap, subst, arith, All, append_assoc, length-append, length-take, is_gt, is_lt, Ordering, Less, Equal, Greater, inl, inr}
use Rattle.std.specs.List.{flat_map}
use Rattle.std.specs.Option.{option_map_or}
use Rattle.std.specs.List.Sorted.{IsStrictlySortedBy}
use Rattle.std.specs.Map.{keys_of}
use Rattle.std.specs.Ordering.{ordering_reverse}
use Rattle.std.proofs.lemmas.Bool.{cases_lt}
use Rattle.std.proofs.lemmas.Grind.{take_at_read}
use Rattle.std.proofs.lemmas.List.{append-nil, get_or-take}
use Rattle.std.proofs.lemmas.List.FromFn.{length-map-range_with_len}
use Rattle.std.proofs.lemmas.Map.Entries.{length-keys_of}
use Rattle.std.proofs.lemmas.List.Elements.{All-head, All-tail}
use Rattle.std.proofs.lemmas.Option.{slice_get-get_or}
use Rattle.ring_format.specs.Cell.{cell_bytes}
use Rattle.ring_format.specs.Head.{number_bytes}
use Rattle.ring_format.specs.Layout.{point_count}
use Rattle.ring_format.specs.Patch.{Cells as Laid, IsPlace, PatchValue, cells_before, place_cmp, with_cell}
use Rattle.ring_format.proofs.CellOrder.{all_before, place_total, puts_at, same_default}
use Rattle.write_shelf.specs.AreRuns.{AreRuns, IsCellRun, places_in}
use Rattle.write_shelf.specs.Runs.{first_runs, last_runs, runs_of}
use Rattle.write_shelf.specs.declared.run.Run.{Run}
use Rattle.write_shelf.specs.declared.run.Run.TheVariants.{Create, Cells, Head}
use Rattle.write_shelf.proofs.CountLemmas.{runs_few}
use Rattle.write_shelf.proofs.LawLemmas.{are_runs}
use Rattle.redo_log.specs.Body.{Fits, entries_bytes, entry_bytes, entry_size}
use Rattle.redo_log.specs.Piece.{FillsWith}
use Rattle.redo_log.specs.Told.{comes_behind}
use Rattle.redo_log.proofs.BodyLemmas.{entries_both, entries_first, entries_none}

-- a cell's parts, one behind the other
pub entry_written : (cell : (ℕ × ℕ) × (ℕ × ℤ)) (before first second third held : List ℕ) → first ≡ before ++ number_bytes cell.0.0 → second ≡ first ++ number_bytes cell.0.1 → third ≡ second ++ held
    → held ≡ cell_bytes cell.1.0 cell.1.1 → third ≡ before ++ entry_bytes cell
unfolding entry_bytes
entry_written cell before first second third held a b c d =
    c ∙ ap (λ (xs : List ℕ). second ++ xs) d ∙ ap (λ (xs : List ℕ). xs ++ cell_bytes cell.1.0 cell.1.1) (b ∙ ap (λ (xs : List ℕ). xs ++ number_bytes cell.0.1) a)
    ∙ simp append_assoc

-- one cell more
pub entries_more : (cells : Laid) (k : ℕ) (d : (ℕ × ℕ) × (ℕ × ℤ)) → k < length cells → entries_bytes (take (k + 1) cells) ≡ entries_bytes (take k cells) ++ entry_bytes (get_or cells k d)
entries_more cells k d within =
    ap entries_bytes (take_at_read cells k d within).1 ∙ entries_both (take k cells) (get_or cells k d ∷ [])
    ∙ ap (λ (xs : List ℕ). entries_bytes (take k cells) ++ xs) (entries_first (get_or cells k d) [] ∙ ap (λ (xs : List ℕ). entry_bytes (get_or cells k d) ++ xs) entries_none ∙ append-nil (entry_bytes (get_or cells k d)))

pub fit_more : (cells : Laid) (k : ℕ) (d : (ℕ × ℕ) × (ℕ × ℤ)) → k < length cells → All Fits (take k cells) → Fits (get_or cells k d) → All Fits (take (k + 1) cells)
fit_more cells k d within fit last = λ j e below. elim (cases_lt j k) [
  | inl less ↦ subst Fits (get_or-take k cells j e less ∙ sym (get_or-take (k + 1) cells j e (omega arith))) (fit j e (omega (arith, below, length-take k cells, length-take (k + 1) cells)))
  | inr more ↦
      let same : k ≡ j = omega (arith, below, length-take (k + 1) cells) in
      let here : get_or cells k d ≡ get_or (take (k + 1) cells) j e = same_default cells k d e within ∙ ap (λ (i : ℕ). get_or cells i e) same ∙ sym (get_or-take (k + 1) cells j e (omega arith)) in
      subst Fits here last
]

pub fit_none : (cells : Laid) → All Fits (take 0 cells)
fit_none cells = λ j e below. absurd (omega arith)

pub filled_more : (cells : Laid) (k at : ℕ) (d cell : (ℕ × ℕ) × (ℕ × ℤ)) (start before after : List ℕ) → k < length cells → cell ≡ get_or cells k d → take (at + entry_size * k) before ≡ take at start ++ entries_bytes (take k cells)
    → take ((at + entry_size * k) + entry_size) after ≡ take (at + entry_size * k) before ++ entry_bytes cell
    → take (at + entry_size * (k + 1)) after ≡ take at start ++ entries_bytes (take (k + 1) cells)
filled_more cells k at d cell start before after within here so_far more =
    let next : at + entry_size * (k + 1) ≡ (at + entry_size * k) + entry_size = omega arith in
    ap (λ (n : ℕ). take n after) next ∙ more ∙ ap (λ (xs : List ℕ). xs ++ entry_bytes cell) so_far ∙ append_assoc (take at start) (entries_bytes (take k cells)) (entry_bytes cell)
    ∙ ap (λ (xs : List ℕ). take at start ++ xs) (ap (λ (c : (ℕ × ℕ) × (ℕ × ℤ)). entries_bytes (take k cells) ++ entry_bytes c) here ∙ sym (entries_more cells k d within))

pub filled_all : (cells : Laid) (at count k : ℕ) (start now : List ℕ) → count ≡ min ((4096 - at) / 28) (length cells) → at ≤ 4096 → k ≡ count → take (at + entry_size * k) now ≡ take at start ++ entries_bytes (take k cells) → All Fits (take k cells)
    → FillsWith cells at count start now
filled_all cells at count k start now is low all bytes fit = record {
  within = omega arith;
  room = omega arith;
  full = elim (cases_lt k (length cells)) [
    | inl less ↦ inr (omega (arith, less))
    | inr every ↦ inl (omega (arith, every))
  ];
  bytes = subst (λ (n : ℕ). take (at + entry_size * n) now ≡ take at start ++ entries_bytes (take n cells)) all bytes;
  fit = subst (λ (n : ℕ). All Fits (take n cells)) all fit;
}

-- ---- a cell behind all others

last_below : (cells : Laid) (place : ℕ × ℕ) (last : ℕ) (d : (ℕ × ℕ) × (ℕ × ℤ)) → length cells ≡ suc last → comes_behind cells place ≡ true → is_lt (place_cmp (get_or cells last d).0 place) ≡ true
last_below cells place last d long behind =
    let at : length cells - 1 ≡ last = omega arith in
    let found : slice_get cells (length cells - 1) ≡ Some (get_or cells last d) = ap (slice_get cells) at ∙ slice_get-get_or cells last d (omega arith) in
    sym (ap (λ (o : Option ((ℕ × ℕ) × (ℕ × ℤ))). option_map_or (λ cell. is_lt (place_cmp cell.0 place)) o true) found) ∙ behind

is_less : (o : Ordering) → is_lt o ≡ true → o ≡ Less
is_less Less e = refl
is_less Equal e = absurd cc
is_less Greater e = absurd cc

turned : (p q : ℕ × ℕ) → is_lt (place_cmp p q) ≡ true → is_gt (place_cmp q p) ≡ true
turned p q less = ap is_gt (place_total.antisymm q p ∙ ap ordering_reverse (is_less (place_cmp p q) less))

all_stand_before : (cells : Laid) (place : ℕ × ℕ) → IsStrictlySortedBy place_cmp (keys_of cells) → comes_behind cells place ≡ true → length cells ≡ cells_before cells place
all_stand_before [] place rise behind = refl
all_stand_before (x ∷ cells) place rise behind =
    all_before (x ∷ cells) place (length cells) x rise refl (turned (get_or (x ∷ cells) (length cells) x).0 place (last_below (x ∷ cells) place (length cells) x refl behind))

insert_last : {X : Type 0} (xs : List X) (x : X) → insert xs (length xs) x ≡ xs ++ x ∷ []
insert_last [] x = refl
insert_last (y ∷ xs) x = ap (λ (ys : List _). y ∷ ys) (insert_last xs x)

pub laid_last : (cells : Laid) (place : ℕ × ℕ) (held : ℕ × ℤ) → IsStrictlySortedBy place_cmp (keys_of cells) → comes_behind cells place ≡ true → with_cell cells place held ≡ cells ++ (place, held) ∷ []
laid_last cells place held rise behind =
    let free = (puts_at cells place (length cells) rise (all_stand_before cells place rise behind)).other (place, held) (λ below. absurd (omega arith)) in
    sym (free.inserted held) ∙ insert_last cells (place, held)

-- ---- how many cells a patch has

length-places : (run : Run) → IsCellRun run → length (places_in run) ≤ 341
length-places (Create size) is = absurd is
length-places (Cells archive slot count) is = omega (arith, length-map-range_with_len {X = ℕ × ℕ} (λ place. (archive, place)) slot count, is.1)
length-places Head is = absurd is

length-all : (runs : List Run) → All IsCellRun runs → length (flat_map places_in runs) ≤ 341 * length runs
length-all [] all = omega arith
length-all (run ∷ runs) all = omega (arith, length-append (places_in run) (flat_map places_in runs), length-places run (All-head IsCellRun run runs all), length-all runs (All-tail IsCellRun run runs all))

length-runs : (patch : PatchValue) (are : AreRuns patch (runs_of patch)) → length are.between ≤ length (runs_of patch)
length-runs patch are =
    omega (arith, ap length are.order, length-append (first_runs patch) (are.between ++ last_runs patch), length-append are.between (last_runs patch))

pub cells_few : (patch : PatchValue) → IsStrictlySortedBy place_cmp (keys_of patch.cells) → All (IsPlace patch.layout) (keys_of patch.cells) → point_count patch.layout.archives ≤ 4000000
    → length patch.cells < 2 ^ 31
cells_few patch rise placed few =
    let are = are_runs patch in
    omega (arith, length-keys_of patch.cells, ap length are.each, length-all are.between are.sizes, length-runs patch are, runs_few patch rise placed few)
