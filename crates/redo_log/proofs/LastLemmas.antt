-- Which run of a patch is its last one.
use Rattle.std.proofs.Common.{◌≡◌, ◌∙◌, ℕ, zero, suc, ℤ, ◌+◌, ◌-◌, ◌≤◌, Bool, true, false, not, ◌&&◌, ◌==◌, List, [], ◌∷◌, ◌++◌, length, map, get_or, slice_get, Option, None, Some, IfSome, refl, sym, ap, ap₂, subst, arith, All, append_assoc, append-nil, length-append, Less, Equal}
use Rattle.std.specs.Prelude.{if◌then◌else◌}
use Rattle.std.specs.List.{AllByRecursion, flat_map, range_with_len}
use Rattle.std.specs.List.Sorted.{IsStrictlySortedBy}
use Rattle.std.specs.Map.{keys_of}
use Rattle.std.specs.Option.{option_map_or}
use Rattle.std.proofs.lemmas.Bool.{and_parts, eq-eqb, eqb-true, ne_eqb}
use Rattle.std.proofs.lemmas.Cmp.{tied_itself}
use Rattle.std.proofs.lemmas.Grind.{flat_map-append}
use Rattle.std.proofs.lemmas.List.Elements.{All-head, All-tail}
use Rattle.std.proofs.lemmas.Map.Keys.{sorted_head, sorted_tail}
use Rattle.std.proofs.lemmas.Option.{slice_get-get_or}
use Rattle.ring_format.specs.LayoutFile.{file_size_of}
use Rattle.ring_format.specs.Patch.{Cells as Laid, PatchValue, place_cmp}
use Rattle.ring_format.proofs.CellOrder.{place_total}
use Rattle.write_shelf.specs.AreRuns.{IsCellRun, neighbours, places_in}
use Rattle.write_shelf.specs.Runs.{first_runs, last_runs, runs_in, runs_of}
use Rattle.write_shelf.specs.Shelf.{ComesInTurn, DrainValue, IsBegun, IsRunOf, OfNext, next_run}
use Rattle.write_shelf.specs.declared.run.Run.{Run}
use Rattle.write_shelf.specs.declared.run.Run.TheVariants.{Create, Cells, Head}
use Rattle.write_shelf.proofs.LawLemmas.{are_runs}
use Rattle.redo_log.specs.LastRun.{ends_in, ends_with}

more_left : (n : ℕ) → (suc (suc n) == 1) ≡ false
more_left n = ne_eqb (suc (suc n)) 1 (λ e. absurd (omega (arith, e)))

-- ---- the last of a list

abbrev last_or : {X : Type 0} → X → List X → X
last_or d [] = d
last_or d (x ∷ xs) = last_or x xs

get_last : {X : Type 0} (x d : X) (xs : List X) → get_or (x ∷ xs) (length xs) d ≡ last_or x xs
get_last x d [] = refl
get_last x d (y ∷ xs) = get_last y d xs

last_behind : {X : Type 0} (d x : X) (before later : List X) → last_or d (before ++ x ∷ later) ≡ last_or x later
last_behind d x [] later = refl
last_behind d x (y ∷ before) later = last_behind y x before later

last_has : {X : Type 0} (P : X → Type 0) (d x : X) (xs : List X) → AllByRecursion P (x ∷ xs) → P (last_or d (x ∷ xs))
last_has P d x [] all = all.0
last_has P d x (y ∷ xs) all = last_has P x y xs all.1

last_key : (d : (ℕ × ℕ) × (ℕ × ℤ)) (cells : Laid) → last_or d.0 (keys_of cells) ≡ (last_or d cells).0
last_key d [] = refl
last_key d (x ∷ cells) = last_key x cells

behind_rise : (before later : List (ℕ × ℕ)) (x : ℕ × ℕ) → IsStrictlySortedBy place_cmp (before ++ x ∷ later) → AllByRecursion (λ q. place_cmp x q ≡ Less) later
behind_rise [] later x rise = sorted_head place_cmp x later rise
behind_rise (y ∷ before) later x rise = behind_rise before later x (sorted_tail place_cmp y (before ++ x ∷ later) rise)

-- the test of the last cell, by the last place
ends_by : (cells : Laid) (archive slot count : ℕ) (before later : List (ℕ × ℕ)) (x : ℕ × ℕ) → keys_of cells ≡ before ++ x ∷ later
    → ends_in cells archive slot count ≡ ((last_or x later).0 == archive && (last_or x later).1 + 1 == slot + count)
ends_by [] archive slot count before later x is = absurd (omega (arith, ap length is, length-append before (x ∷ later)))
ends_by (z ∷ cells) archive slot count before later x is =
    let at : length (z ∷ cells) - 1 ≡ length cells = omega arith in
    let found : slice_get (z ∷ cells) (length (z ∷ cells) - 1) ≡ Some (get_or (z ∷ cells) (length cells) z) = ap (slice_get (z ∷ cells)) at ∙ slice_get-get_or (z ∷ cells) (length cells) z (omega arith) in
    let place : (get_or (z ∷ cells) (length cells) z).0 ≡ last_or x later = ap (λ (c : (ℕ × ℕ) × (ℕ × ℤ)). c.0) (get_last z z cells) ∙ sym (last_key z cells) ∙ last_cons z.0 (keys_of cells) ∙ ap (last_or z.0) is ∙ last_behind z.0 x before later in
    ap (λ (o : Option ((ℕ × ℕ) × (ℕ × ℤ))). option_map_or (λ cell. cell.0.0 == archive && cell.0.1 + 1 == slot + count) o false) found
    ∙ ap (λ (p : ℕ × ℕ). p.0 == archive && p.1 + 1 == slot + count) place
  where
    last_cons : (z : ℕ × ℕ) (keys : List (ℕ × ℕ)) → last_or z keys ≡ last_or z (z ∷ keys)
    last_cons z keys = refl

-- ---- the places of a run

range_last : (a n : ℕ) → range_with_len a (suc n) ≡ range_with_len a n ++ (a + n) ∷ []
range_last a zero =
    let same : a ≡ a + 0 = omega arith in
    ap (λ (x : ℕ). x ∷ []) same
range_last a (suc n) =
    let last : (a + 1) + n ≡ a + suc n = omega arith in
    ap (λ (xs : List ℕ). a ∷ xs) (range_last (a + 1) n) ∙ ap (λ (x : ℕ). a ∷ (range_with_len (a + 1) n ++ x ∷ [])) last

neighbours_last : (archive slot n : ℕ) → neighbours archive slot (suc n) ≡ neighbours archive slot n ++ (archive, slot + n) ∷ []
neighbours_last archive slot n = ap (map {B = ℕ × ℕ} (λ place. (archive, place))) (range_last slot n) ∙ map_both (range_with_len slot n) (slot + n)
  where
    map_both : (xs : List ℕ) (x : ℕ) → map {B = ℕ × ℕ} (λ place. (archive, place)) (xs ++ x ∷ []) ≡ map {B = ℕ × ℕ} (λ place. (archive, place)) xs ++ (archive, x) ∷ []
    map_both [] x = refl
    map_both (y ∷ xs) x = ap (λ (ps : List (ℕ × ℕ)). (archive, y) ∷ ps) (map_both xs x)

-- the places of runs with one of cells among them, split at its last slot
split_at : (written rest : List Run) (archive slot n : ℕ) → flat_map places_in (written ++ Cells archive slot (suc n) ∷ rest)
    ≡ (flat_map places_in written ++ neighbours archive slot n) ++ (archive, slot + n) ∷ flat_map places_in rest
split_at written rest archive slot n =
    let last : List (ℕ × ℕ) = (archive, slot + n) ∷ [] in
    flat_map-append places_in written (Cells archive slot (suc n) ∷ rest)
    ∙ ap (λ (ps : List (ℕ × ℕ)). flat_map places_in written ++ (ps ++ flat_map places_in rest)) (neighbours_last archive slot n)
    ∙ ap (λ (ps : List (ℕ × ℕ)). flat_map places_in written ++ ps) (append_assoc (neighbours archive slot n) last (flat_map places_in rest))
    ∙ sym (append_assoc (flat_map places_in written) (neighbours archive slot n) (last ++ flat_map places_in rest))

-- a run of cells has a first place
first_place : (run : Run) (others : List (ℕ × ℕ)) → IsCellRun run → (p : ℕ × ℕ) × (ps : List (ℕ × ℕ)) × (places_in run ++ others ≡ p ∷ ps)
first_place (Create size) others is = absurd is
first_place (Cells archive slot zero) others is = absurd (omega (arith, is.0))
first_place (Cells archive slot (suc n)) others is = ((archive, slot), map {B = ℕ × ℕ} (λ place. (archive, place)) (range_with_len (slot + 1) n) ++ others, refl)
first_place Head others is = absurd is

-- the test for a run of cells
last_by : (archive slot n : ℕ) (rest : List Run) → AllByRecursion (λ q. place_cmp (archive, slot + n) q ≡ Less) (flat_map places_in rest) → AllByRecursion IsCellRun rest
    → ((last_or (archive, slot + n) (flat_map places_in rest)).0 == archive && (last_or (archive, slot + n) (flat_map places_in rest)).1 + 1 == slot + suc n) ≡ (suc (length rest) == 1)
last_by archive slot n [] rise runs =
    let next : (slot + n) + 1 ≡ slot + suc n = omega arith in
    ap₂ (λ (a b : Bool). a && b) (eq-eqb archive archive refl) (eq-eqb ((slot + n) + 1) (slot + suc n) next)
last_by archive slot n (run ∷ rest) rise runs =
    let x : ℕ × ℕ = (archive, slot + n) in
    let places : List (ℕ × ℕ) = flat_map places_in (run ∷ rest) in
    let first = first_place run (flat_map places_in rest) runs.0 in
    let last : ℕ × ℕ = last_or x places in
    let above : place_cmp x last ≡ Less = subst (λ (ps : List (ℕ × ℕ)). place_cmp x (last_or x ps) ≡ Less) (sym first.2)
    (last_has (λ q. place_cmp x q ≡ Less) x first.0 first.1 (subst (AllByRecursion (λ q. place_cmp x q ≡ Less)) first.2 rise)) in
    differs last above (last.0 == archive && last.1 + 1 == slot + suc n) refl
  where
    differs : (last : ℕ × ℕ) → place_cmp (archive, slot + n) last ≡ Less → (b : Bool) → (last.0 == archive && last.1 + 1 == slot + suc n) ≡ b → b ≡ (suc (suc (length rest)) == 1)
    differs last above true same =
        let parts = and_parts (last.0 == archive) (last.1 + 1 == slot + suc n) same in
        let first : last.0 ≡ archive = eqb-true last.0 archive parts.0 in
        let next : last.1 + 1 ≡ slot + suc n = eqb-true (last.1 + 1) (slot + suc n) parts.1 in
        let second : last.1 ≡ slot + n = omega (arith, next) in
        let here : last ≡ (archive, slot + n) = ap₂ (λ (a b : ℕ). (a, b)) first second in
        let tied : Equal ≡ Less = sym (tied_itself place_total (archive, slot + n)) ∙ ap (place_cmp (archive, slot + n)) (sym here) ∙ above in
        absurd cc
    differs last above false same = sym (more_left (length rest))

-- ---- the runs of a patch

same_last : (xs ys : List Run) (x y : Run) → xs ++ x ∷ [] ≡ ys ++ y ∷ [] → x ≡ y
same_last xs ys x y e = sym (last_behind x x xs [] ∙ plain x) ∙ ap (last_or x) e ∙ last_behind x y ys [] ∙ plain y
  where
    plain : (z : Run) → last_or z [] ≡ z
    plain z = refl

by_recursion : (runs : List Run) → All IsCellRun runs → AllByRecursion IsCellRun runs
by_recursion [] all = tt
by_recursion (run ∷ runs) all = (All-head IsCellRun run runs all, by_recursion runs (All-tail IsCellRun run runs all))

part_of : (before later : List Run) → AllByRecursion IsCellRun (before ++ later) → AllByRecursion IsCellRun later
part_of [] later all = all
part_of (run ∷ before) later all = part_of before later all.1

cells_last : (patch : PatchValue) (written rest : List Run) (archive slot count : ℕ) (fresh : Bool) → patch.fresh ≡ fresh → runs_of patch ≡ written ++ Cells archive slot count ∷ rest → 1 ≤ count → IsStrictlySortedBy place_cmp (keys_of patch.cells)
    → (not fresh && ends_in patch.cells archive slot count) ≡ (suc (length rest) == 1)
cells_last patch written [] archive slot count true is runs some rise =
    let front : List Run = first_runs patch ++ runs_in (keys_of patch.cells) in
    let heads : last_runs patch ≡ Head ∷ [] = ap (λ (b : Bool). if b then Head ∷ [] else []) is in
    let ends : front ++ Head ∷ [] ≡ written ++ Cells archive slot count ∷ [] = ap (λ (xs : List Run). front ++ xs) (sym heads) ∙ append_assoc (first_runs patch) (runs_in (keys_of patch.cells)) (last_runs patch) ∙ runs in
    let same : Head ≡ Cells archive slot count = same_last front written Head (Cells archive slot count) ends in
    absurd cc
cells_last patch written (run ∷ rest) archive slot count true is runs some rise = sym (more_left (length rest))
cells_last patch written rest archive slot zero false is runs some rise = absurd (omega (arith, some))
cells_last patch written rest archive slot (suc n) false is runs some rise =
    let are = are_runs patch in
    let no_first : first_runs patch ≡ [] = ap (λ (b : Bool). if b then Create (file_size_of patch.layout.archives) ∷ [] else []) is in
    let no_last : last_runs patch ≡ [] = ap (λ (b : Bool). if b then Head ∷ [] else []) is in
    let all : are.between ≡ written ++ Cells archive slot (suc n) ∷ rest = sym (are.order ∙ ap₂ (λ (xs ys : List Run). xs ++ (are.between ++ ys)) no_first no_last ∙ append-nil are.between) ∙ runs in
    let keys : keys_of patch.cells ≡ (flat_map places_in written ++ neighbours archive slot n) ++ (archive, slot + n) ∷ flat_map places_in rest = sym are.each ∙ ap (flat_map places_in) all ∙ split_at written rest archive slot n in
    let above = behind_rise (flat_map places_in written ++ neighbours archive slot n) (flat_map places_in rest) (archive, slot + n) (subst (IsStrictlySortedBy place_cmp) keys rise) in
    let cells : AllByRecursion IsCellRun (written ++ Cells archive slot (suc n) ∷ rest) = subst (AllByRecursion IsCellRun) all (by_recursion are.between are.sizes) in
    ends_by patch.cells archive slot (suc n) (flat_map places_in written ++ neighbours archive slot n) (flat_map places_in rest) (archive, slot + n) keys
    ∙ last_by archive slot n rest above (part_of written (Cells archive slot (suc n) ∷ rest) cells).1

-- the test tells whether one run is left
run_last : (patch : PatchValue) (run : Run) (rest : List Run) → IsBegun (record { patch = patch; left = run ∷ rest }) → IsRunOf patch run → ComesInTurn (record { patch = patch; left = run ∷ rest }) run
    → IsStrictlySortedBy place_cmp (keys_of patch.cells) → ends_with patch run ≡ (suc (length rest) == 1)
run_last patch (Create size) rest begun sound turn rise =
    let first : length (first_runs patch) ≡ 1 = ap (λ (b : Bool). length (if b then Create (file_size_of patch.layout.archives) ∷ [] else [])) sound.0 in
    let last : length (last_runs patch) ≡ 1 = ap (λ (b : Bool). length (if b then Head ∷ [] else [])) sound.0 in
    sym (ne_eqb (suc (length rest)) 1 (λ same. absurd (omega (
      arith,
      same,
      first,
      last,
      ap length turn,
      length-append (first_runs patch) (runs_in (keys_of patch.cells) ++ last_runs patch),
      length-append (runs_in (keys_of patch.cells)) (last_runs patch),
    ))))
run_last patch (Cells archive slot count) rest begun sound turn rise = cells_last patch begun.written rest archive slot count patch.fresh refl begun.runs sound.some rise
run_last patch Head rest begun sound turn rise =
    let one : suc (length rest) ≡ 1 = ap length turn in
    sym (eq-eqb (suc (length rest)) 1 one)

last_of : (patch : PatchValue) (left : List Run) (run : Run) → slice_get left 0 ≡ Some run → IsBegun (record { patch = patch; left = left }) → IsRunOf patch run → ComesInTurn (record { patch = patch; left = left }) run
    → IsStrictlySortedBy place_cmp (keys_of patch.cells) → ends_with patch run ≡ (length left == 1)
last_of patch [] run e begun sound turn rise = absurd cc
last_of patch (x ∷ rest) run e begun sound turn rise =
    let same : x ≡ run = cc in
    subst (λ (r : Run). IsRunOf patch r → ComesInTurn (record { patch = patch; left = x ∷ rest }) r → ends_with patch r ≡ (suc (length rest) == 1)) same (λ s t. run_last patch x rest begun s t rise) sound turn

pub one_left : (drain : DrainValue) (run : Run) → slice_get drain.left 0 ≡ Some run → IsBegun drain → IsRunOf drain.patch run → ComesInTurn drain run → IsStrictlySortedBy place_cmp (keys_of drain.patch.cells)
    → ends_with drain.patch run ≡ (length drain.left == 1)
one_left drain run e begun sound turn rise = last_of drain.patch drain.left run e begun sound turn rise

-- the same of a shelf
pub shelf_last : (shelf : Option DrainValue) (run : Run) (patch : PatchValue) (last : Bool) → Some run ≡ next_run shelf → IfSome shelf IsBegun → OfNext shelf IsRunOf → IfSome shelf (λ drain. ComesInTurn drain run) → IfSome shelf (λ drain. patch ≡ drain.patch)
    → last ≡ ends_with patch run → IsStrictlySortedBy place_cmp (keys_of patch.cells) → IfSome shelf (λ drain. last ≡ (length drain.left == 1))
shelf_last None run patch last is begun sound turn same e rise = tt
shelf_last (Some drain) run patch last is begun sound turn same e rise =
    let first : slice_get drain.left 0 ≡ Some run = sym is in
    let of_it : IsRunOf drain.patch run = subst (λ (o : Option Run). IfSome o (IsRunOf drain.patch)) first sound in
    e ∙ ap (λ (p : PatchValue). ends_with p run) same ∙ one_left drain run first begun of_it turn (subst (λ (p : PatchValue). IsStrictlySortedBy place_cmp (keys_of p.cells)) same rise)
