-- Cells in rising place, and where a place stands among them.
use Rattle.std.proofs.Common.{◌≡◌, ◌≢◌, ◌∙◌, ℕ, zero, suc, ℤ, ◌<◌, ◌≤◌, All, Bool, true, false, cond, [], ◌∷◌, length, get_or, set, insert, slice_get, Option, Some, None, OnOk, Result, Ok, Err, refl, sym, ap, subst, arith, nat_cmp, is_eq, is_gt, is_le, Ordering, Less, Equal, Greater}
use Rattle.std.specs.BTreeMap.{is_at}
use Rattle.std.specs.Cmp.{IsTotalOrder}
use Rattle.std.specs.List.{AllByRecursion}
use Rattle.std.specs.List.Sorted.{IsPartitionPoint, IsPartitionedBy, IsStrictlySortedBy}
use Rattle.std.specs.Map.{keys_of}
use Rattle.std.specs.Ordering.{match_ordering, ordering_reverse}
use Rattle.std.proofs.lemmas.Bool.{cond-true, cond-false}
use Rattle.std.proofs.lemmas.Cmp.{nat_cmp_total, on_total, then_total, tied_itself}
use Rattle.std.proofs.lemmas.Map.Keys.{sorted_head, sorted_tail}
use Rattle.std.proofs.lemmas.Map.Lookups.{exact_pairs, exact_unsigned}
use Rattle.std.proofs.lemmas.Option.{slice_get-get_or}
use Rattle.ring_format.specs.Layout.{LayoutValue}
use Rattle.ring_format.specs.Patch.{Cells, IsPlace, PutsAt, cell_at, cells_before, first_cell_from, place_cmp, with_cell}
use Rattle.ring_format.proofs.PatchLemmas.{other_place}

pub place_total : IsTotalOrder place_cmp
place_total = then_total (on_total (λ (p : ℕ × ℕ). p.0) nat_cmp_total) (on_total (λ (p : ℕ × ℕ). p.1) nat_cmp_total)

pub same_place : (p q : ℕ × ℕ) → place_cmp p q ≡ Equal → p ≡ q
same_place = exact_pairs nat_cmp nat_cmp exact_unsigned exact_unsigned

-- a place is not below itself, nor above it
at_itself : (p q : ℕ × ℕ) (o : Ordering) → p ≡ q → place_cmp p q ≡ o → o ≡ Equal
at_itself p q o same order = sym order ∙ ap (λ (r : ℕ × ℕ). place_cmp p r) (sym same) ∙ tied_itself place_total p

turned : (p q : ℕ × ℕ) (o : Ordering) → place_cmp p q ≡ o → place_cmp q p ≡ ordering_reverse o
turned p q o order = place_total.antisymm q p ∙ ap ordering_reverse order

is_greater : (o : Ordering) → is_gt o ≡ true → o ≡ Greater
is_greater Less e = absurd cc
is_greater Equal e = absurd cc
is_greater Greater e = refl

-- a place above one is above each before it
above_before : (place p q : ℕ × ℕ) → place_cmp p q ≡ Less → is_gt (place_cmp place q) ≡ true → is_gt (place_cmp place p) ≡ true
above_before place p q less above =
    let under : place_cmp q place ≡ Less = turned place q Greater (is_greater (place_cmp place q) above) in
    ap is_gt (turned p place Less (place_total.trans p q place less under))

-- the cells behind the first stand behind it
behind_first : (p : ℕ × ℕ) (cells : Cells) (k : ℕ) (d : (ℕ × ℕ) × (ℕ × ℤ)) → AllByRecursion (λ q. place_cmp p q ≡ Less) (keys_of cells) → k < length cells → place_cmp p (get_or cells k d).0 ≡ Less
behind_first p [] k d all lt = absurd (omega arith)
behind_first p (x ∷ cells) zero d all lt = all.0
behind_first p (x ∷ cells) (suc k) d all lt = behind_first p cells k d all.1 (omega arith)

-- cells in rising place are parted by each place
pub parted : (cells : Cells) (place : ℕ × ℕ) → IsStrictlySortedBy place_cmp (keys_of cells) → IsPartitionedBy (λ cell. is_gt (place_cmp place cell.0)) cells
parted [] place rise i j d le lt passes = absurd (omega arith)
parted (x ∷ cells) place rise zero zero d le lt passes = passes
parted (x ∷ cells) place rise zero (suc j) d le lt passes =
    above_before place x.0 (get_or cells j d).0 (behind_first x.0 cells j d (sorted_head place_cmp x.0 (keys_of cells) rise) (omega arith)) passes
parted (x ∷ cells) place rise (suc i) zero d le lt passes = absurd (omega arith)
parted (x ∷ cells) place rise (suc i) (suc j) d le lt passes = parted cells place (sorted_tail place_cmp x.0 (keys_of cells) rise) i j d (omega arith) (omega arith) passes

-- the point at which they are parted
pub before_is : (cells : Cells) (place : ℕ × ℕ) (at : ℕ) → at ≤ length cells → IsPartitionPoint (λ cell. is_gt (place_cmp place cell.0) ≡ true) (λ cell. is_gt (place_cmp place cell.0) ≡ false) cells at
    → at ≡ cells_before cells place
before_is [] place at within parts = omega arith
before_is (x ∷ cells) place zero within parts = sym (cond-false _ _ _ (parts.1 0 x (omega arith) (omega arith)))
before_is (x ∷ cells) place (suc at) within parts =
    let rest = before_is cells place at (omega arith) (λ k d low high. parts.0 (suc k) d (omega arith) (omega arith), λ k d low high. parts.1 (suc k) d (omega arith) (omega arith)) in
    ap suc rest ∙ sym (cond-true _ _ _ (parts.0 0 x (omega arith) (omega arith)))

-- none stand before a place where there are none
pub none_before : (cells : Cells) (place : ℕ × ℕ) → length cells ≡ 0 → 0 ≡ cells_before cells place
none_before [] place none = refl
none_before (x ∷ cells) place none = absurd (omega arith)

-- what is read within a list does not rest on what stands for nothing
pub same_default : (cells : Cells) (k : ℕ) (d e : (ℕ × ℕ) × (ℕ × ℤ)) → k < length cells → get_or cells k d ≡ get_or cells k e
same_default [] k d e lt = absurd (omega arith)
same_default (x ∷ cells) zero d e lt = refl
same_default (x ∷ cells) (suc k) d e lt = same_default cells k d e (omega arith)

-- all stand before a place where the last does
pub all_before : (cells : Cells) (place : ℕ × ℕ) (last : ℕ) (d : (ℕ × ℕ) × (ℕ × ℤ)) → IsStrictlySortedBy place_cmp (keys_of cells) → length cells ≡ suc last → is_gt (place_cmp place (get_or cells last d).0) ≡ true
    → length cells ≡ cells_before cells place
all_before cells place last d rise count passes =
    before_is cells place (length cells) (omega arith) (λ k e low high. parted cells place rise k last e (omega arith) (omega arith) (subst (λ (c : (ℕ × ℕ) × (ℕ × ℤ)). is_gt (place_cmp place c.0) ≡ true) (same_default cells last d e (omega arith)) passes), λ k e low high. absurd (omega arith))

-- ---- a cell is laid

-- over the one of its place
pub laid_over : (cells : Cells) (place : ℕ × ℕ) (held : ℕ × ℤ) (d : (ℕ × ℕ) × (ℕ × ℤ)) → cells_before cells place < length cells → (get_or cells (cells_before cells place) d).0 ≡ place
    → set cells (cells_before cells place) (place, held) ≡ with_cell cells place held
laid_over [] place held d lt same = absurd (omega arith)
laid_over (x ∷ cells) place held d lt same = by (λ below is. laid_over cells place held d below is) (place_cmp place x.0) refl lt same
  where
    by : (cells_before cells place < length cells → (get_or cells (cells_before cells place) d).0 ≡ place → set cells (cells_before cells place) (place, held) ≡ with_cell cells place held)
        → (o : Ordering) → place_cmp place x.0 ≡ o → cond (is_gt o) (suc (cells_before cells place)) 0 < length (x ∷ cells) → (get_or (x ∷ cells) (cond (is_gt o) (suc (cells_before cells place)) 0) d).0 ≡ place
        → set (x ∷ cells) (cond (is_gt o) (suc (cells_before cells place)) 0) (place, held) ≡ match_ordering o ((place, held) ∷ x ∷ cells) ((x.0, held) ∷ cells) (x ∷ with_cell cells place held)
    by rest Less order lt same = let tied : Less ≡ Equal = at_itself place x.0 Less (sym same) order in absurd cc
    by rest Equal order lt same = ap (λ (p : ℕ × ℕ). (p, held) ∷ cells) (sym same)
    by rest Greater order lt same = ap (λ (cs : Cells). x ∷ cs) (rest (omega arith) same)

-- between those before its place and those behind it
pub laid_between : (cells : Cells) (place : ℕ × ℕ) (held : ℕ × ℤ) → (cells_before cells place < length cells → (d : (ℕ × ℕ) × (ℕ × ℤ)) → (get_or cells (cells_before cells place) d).0 ≢ place)
    → insert cells (cells_before cells place) (place, held) ≡ with_cell cells place held
laid_between [] place held other = refl
laid_between (x ∷ cells) place held other = by (λ far. laid_between cells place held far) (place_cmp place x.0) refl other
  where
    by : ((cells_before cells place < length cells → (d : (ℕ × ℕ) × (ℕ × ℤ)) → (get_or cells (cells_before cells place) d).0 ≢ place) → insert cells (cells_before cells place) (place, held) ≡ with_cell cells place held)
        → (o : Ordering) → place_cmp place x.0 ≡ o → (cond (is_gt o) (suc (cells_before cells place)) 0 < length (x ∷ cells) → (d : (ℕ × ℕ) × (ℕ × ℤ)) → (get_or (x ∷ cells) (cond (is_gt o) (suc (cells_before cells place)) 0) d).0 ≢ place)
        → insert (x ∷ cells) (cond (is_gt o) (suc (cells_before cells place)) 0) (place, held) ≡ match_ordering o ((place, held) ∷ x ∷ cells) ((x.0, held) ∷ cells) (x ∷ with_cell cells place held)
    by rest Less order other = refl
    by rest Equal order other = absurd (other (omega arith) x (sym (same_place place x.0 order)))
    by rest Greater order other = ap (λ (cs : Cells). x ∷ cs) (rest (λ lt. other (omega arith)))

all_behind : (p place : ℕ × ℕ) (held : ℕ × ℤ) (cells : Cells) → place_cmp p place ≡ Less → AllByRecursion (λ q. place_cmp p q ≡ Less) (keys_of cells) → AllByRecursion (λ q. place_cmp p q ≡ Less) (keys_of (with_cell cells place held))
all_behind p place held [] less all = (less, tt)
all_behind p place held (x ∷ cells) less all = by (all_behind p place held cells less all.1) (place_cmp place x.0)
  where
    by : AllByRecursion (λ q. place_cmp p q ≡ Less) (keys_of (with_cell cells place held)) → (o : Ordering) → AllByRecursion (λ q. place_cmp p q ≡ Less) (keys_of (match_ordering o ((place, held) ∷ x ∷ cells) ((x.0, held) ∷ cells) (x ∷ with_cell cells place held)))
    by rest Less = (less, all)
    by rest Equal = all
    by rest Greater = (all.0, rest)

each_behind : (p q : ℕ × ℕ) (cells : Cells) → place_cmp p q ≡ Less → AllByRecursion (λ r. place_cmp q r ≡ Less) (keys_of cells) → AllByRecursion (λ r. place_cmp p r ≡ Less) (keys_of cells)
each_behind p q [] less all = tt
each_behind p q (x ∷ cells) less all = (place_total.trans p q x.0 less all.0, each_behind p q cells less all.1)

-- the places rise still
pub rises_with : (cells : Cells) (place : ℕ × ℕ) (held : ℕ × ℤ) → IsStrictlySortedBy place_cmp (keys_of cells) → IsStrictlySortedBy place_cmp (keys_of (with_cell cells place held))
unfolding IsStrictlySortedBy
rises_with [] place held rise = (tt, tt)
rises_with (x ∷ cells) place held rise = by (rises_with cells place held rise.1) (place_cmp place x.0) refl
  where
    by : IsStrictlySortedBy place_cmp (keys_of (with_cell cells place held)) → (o : Ordering) → place_cmp place x.0 ≡ o → IsStrictlySortedBy place_cmp (keys_of (match_ordering o ((place, held) ∷ x ∷ cells) ((x.0, held) ∷ cells) (x ∷ with_cell cells place held)))
    by rest Less order = ((order, each_behind place x.0 cells order rise.0), rise)
    by rest Equal order = rise
    by rest Greater order = (all_behind x.0 place held cells (turned place x.0 Greater order) rise.0, rest)

-- the place has the new cell
pub laid_here : (cells : Cells) (place : ℕ × ℕ) (held : ℕ × ℤ) → cell_at (with_cell cells place held) place ≡ Some held
laid_here [] place held = cond-true _ _ _ (ap is_eq (tied_itself place_total place))
laid_here (x ∷ cells) place held = by (laid_here cells place held) (place_cmp place x.0) refl
  where
    by : cell_at (with_cell cells place held) place ≡ Some held → (o : Ordering) → place_cmp place x.0 ≡ o
        → cell_at (match_ordering o ((place, held) ∷ x ∷ cells) ((x.0, held) ∷ cells) (x ∷ with_cell cells place held)) place ≡ Some held
    by rest Less order = cond-true _ _ _ (ap is_eq (tied_itself place_total place))
    by rest Equal order = cond-true _ _ _ (ap is_eq order)
    by rest Greater order = cond-false _ _ _ (ap is_eq order) ∙ rest

-- each other has what it had
pub laid_elsewhere : (cells : Cells) (place other : ℕ × ℕ) (held : ℕ × ℤ) → other ≢ place → cell_at (with_cell cells place held) other ≡ cell_at cells other
laid_elsewhere [] place other held differs = cond-false _ _ _ (other_place other place (λ same. differs (sym same)))
laid_elsewhere (x ∷ cells) place other held differs = by (laid_elsewhere cells place other held differs) (place_cmp place x.0) refl
  where
    past : is_at (place_cmp other) place ≡ false
    past = other_place other place (λ same. differs (sym same))

    by : cell_at (with_cell cells place held) other ≡ cell_at cells other → (o : Ordering) → place_cmp place x.0 ≡ o
        → cell_at (match_ordering o ((place, held) ∷ x ∷ cells) ((x.0, held) ∷ cells) (x ∷ with_cell cells place held)) other ≡ cell_at (x ∷ cells) other
    by rest Less order = cond-false _ _ _ past
    by rest Equal order =
        let here : is_at (place_cmp other) x.0 ≡ false = ap (λ (p : ℕ × ℕ). is_at (place_cmp other) p) (sym (same_place place x.0 order)) ∙ past in
        cond-false _ _ _ here ∙ sym (cond-false _ _ _ here)
    by rest Greater order = ap (λ (found : Option (ℕ × ℤ)). cond (is_at (place_cmp other) x.0) (Some x.1) found) rest

-- ---- a cell is looked up

-- the first that is not before a place
pub first_behind : (cells : Cells) (place : ℕ × ℕ) → slice_get cells (cells_before cells place) ≡ first_cell_from cells place
first_behind [] place = refl
first_behind (x ∷ cells) place = by (first_behind cells place) (place_cmp place x.0)
  where
    by : slice_get cells (cells_before cells place) ≡ first_cell_from cells place → (o : Ordering) → slice_get (x ∷ cells) (cond (is_gt o) (suc (cells_before cells place)) 0) ≡ cond (is_le o) (Some x) (first_cell_from cells place)
    by rest Less = refl
    by rest Equal = refl
    by rest Greater = rest

none_at : (place : ℕ × ℕ) (cells : Cells) → AllByRecursion (λ q. place_cmp place q ≡ Less) (keys_of cells) → cell_at cells place ≡ None
none_at place [] all = refl
none_at place (x ∷ cells) all = cond-false _ _ _ (ap is_eq all.0) ∙ none_at place cells all.1

-- the cell that stands at a place
pub laid_at : (cells : Cells) (place : ℕ × ℕ) (at : ℕ) (d : (ℕ × ℕ) × (ℕ × ℤ)) → IsStrictlySortedBy place_cmp (keys_of cells) → at < length cells → (get_or cells at d).0 ≡ place
    → cell_at cells place ≡ Some (get_or cells at d).1
laid_at [] place at d rise lt same = absurd (omega arith)
laid_at (x ∷ cells) place zero d rise lt same = cond-true _ _ _ (ap is_eq (ap (λ (r : ℕ × ℕ). place_cmp place r) same ∙ tied_itself place_total place))
laid_at (x ∷ cells) place (suc at) d rise lt same =
    let less : place_cmp x.0 (get_or cells at d).0 ≡ Less = behind_first x.0 cells at d (sorted_head place_cmp x.0 (keys_of cells) rise) (omega arith) in
    let under : place_cmp x.0 place ≡ Less = ap (λ (r : ℕ × ℕ). place_cmp x.0 r) (sym same) ∙ less in
    cond-false _ _ _ (ap is_eq (turned x.0 place Less under)) ∙ laid_at cells place at d (sorted_tail place_cmp x.0 (keys_of cells) rise) (omega arith) same

-- the place's own cell is that one, or there is none
pub found_at : (cells : Cells) (place : ℕ × ℕ) (cell : (ℕ × ℕ) × (ℕ × ℤ)) → first_cell_from cells place ≡ Some cell → cell.0 ≡ place → cell_at cells place ≡ Some cell.1
found_at [] place cell found same = absurd cc
found_at (x ∷ cells) place cell found same = by (λ here. found_at cells place cell here same) (place_cmp place x.0) refl found
  where
    by : (first_cell_from cells place ≡ Some cell → cell_at cells place ≡ Some cell.1) → (o : Ordering) → place_cmp place x.0 ≡ o → cond (is_le o) (Some x) (first_cell_from cells place) ≡ Some cell
        → cond (is_eq o) (Some x.1) (cell_at cells place) ≡ Some cell.1
    by rest Less order found =
        let is : x ≡ cell = cc in
        let tied : Less ≡ Equal = at_itself place x.0 Less (sym same ∙ ap (λ (c : (ℕ × ℕ) × (ℕ × ℤ)). c.0) (sym is)) order in absurd cc
    by rest Equal order found = let is : x ≡ cell = cc in ap (λ (c : (ℕ × ℕ) × (ℕ × ℤ)). Some c.1) is
    by rest Greater order found = rest found

pub passed_by : (cells : Cells) (place : ℕ × ℕ) (cell : (ℕ × ℕ) × (ℕ × ℤ)) → IsStrictlySortedBy place_cmp (keys_of cells) → first_cell_from cells place ≡ Some cell → cell.0 ≢ place → cell_at cells place ≡ None
passed_by [] place cell rise found other = refl
passed_by (x ∷ cells) place cell rise found other =
    by (λ here. passed_by cells place cell (sorted_tail place_cmp x.0 (keys_of cells) rise) here other) (place_cmp place x.0) refl found
  where
    by : (first_cell_from cells place ≡ Some cell → cell_at cells place ≡ None) → (o : Ordering) → place_cmp place x.0 ≡ o → cond (is_le o) (Some x) (first_cell_from cells place) ≡ Some cell
        → cond (is_eq o) (Some x.1) (cell_at cells place) ≡ None
    by rest Less order found = none_at place cells (each_behind place x.0 cells order (sorted_head place_cmp x.0 (keys_of cells) rise))
    by rest Equal order found = let is : x ≡ cell = cc in absurd (other (ap (λ (c : (ℕ × ℕ) × (ℕ × ℤ)). c.0) (sym is) ∙ sym (same_place place x.0 order)))
    by rest Greater order found = rest found

pub none_found : (cells : Cells) (place : ℕ × ℕ) → first_cell_from cells place ≡ None → cell_at cells place ≡ None
none_found [] place none = refl
none_found (x ∷ cells) place none = by (λ here. none_found cells place here) (place_cmp place x.0) none
  where
    by : (first_cell_from cells place ≡ None → cell_at cells place ≡ None) → (o : Ordering) → cond (is_le o) (Some x) (first_cell_from cells place) ≡ None → cond (is_eq o) (Some x.1) (cell_at cells place) ≡ None
    by rest Less none = absurd cc
    by rest Equal none = absurd cc
    by rest Greater none = rest none

pub before_within : (cells : Cells) (place : ℕ × ℕ) → cells_before cells place ≤ length cells
before_within [] place = omega arith
before_within (x ∷ cells) place = by (before_within cells place) (is_gt (place_cmp place x.0))
  where
    by : cells_before cells place ≤ length cells → (above : Bool) → cond above (suc (cells_before cells place)) 0 ≤ length (x ∷ cells)
    by rest true = omega (arith, rest)
    by rest false = omega arith

-- no cells at all
pub no_cells : (layout : LayoutValue) (cells : Cells) → cells ≡ [] → IsStrictlySortedBy place_cmp (keys_of cells) × All (IsPlace layout) (keys_of cells)
unfolding IsStrictlySortedBy
no_cells layout [] none = (tt, λ k d lt. absurd (omega arith))
no_cells layout (x ∷ cells) none = absurd cc

-- the cell that stands there, or none
pub behind_is : (cells : Cells) (place : ℕ × ℕ) (at : ℕ) (d : (ℕ × ℕ) × (ℕ × ℤ)) → at ≡ cells_before cells place → at < length cells → Some (get_or cells at d) ≡ first_cell_from cells place
behind_is cells place at d is lt = sym (slice_get-get_or cells at d lt) ∙ ap (slice_get cells) is ∙ first_behind cells place

nothing_there : (cells : Cells) (at : ℕ) → length cells ≤ at → slice_get cells at ≡ None
nothing_there [] at past = refl
nothing_there (x ∷ cells) zero past = absurd (omega arith)
nothing_there (x ∷ cells) (suc at) past = nothing_there cells at (omega arith)

pub none_behind : (cells : Cells) (place : ℕ × ℕ) (at : ℕ) → at ≡ cells_before cells place → length cells ≤ at → None ≡ first_cell_from cells place
none_behind cells place at is past = sym (nothing_there cells at past) ∙ ap (slice_get cells) is ∙ first_behind cells place

-- what a write or an insertion there makes of the cells
pub puts_at : (cells : Cells) (place : ℕ × ℕ) (at : ℕ) → IsStrictlySortedBy place_cmp (keys_of cells) → at ≡ cells_before cells place → PutsAt cells place at
puts_at cells place at rise is = subst (λ (n : ℕ). PutsAt cells place n) (sym is) (record {
  here = λ d lt same.
      let over = λ (held : ℕ × ℤ). laid_over cells place held d lt same in
      record {
        within = lt;
        written = over;
        rise = λ held. subst (λ (cs : Cells). IsStrictlySortedBy place_cmp (keys_of cs)) (sym (over held)) (rises_with cells place held rise);
      };
  other = λ d differs.
      let between = λ (held : ℕ × ℤ). laid_between cells place held (λ lt e.
      subst (λ (c : (ℕ × ℕ) × (ℕ × ℤ)). c.0 ≢ place) (same_default cells (cells_before cells place) d e lt) (differs lt)) in
      record {
        within = before_within cells place;
        inserted = between;
        rise = λ held. subst (λ (cs : Cells). IsStrictlySortedBy place_cmp (keys_of cs)) (sym (between held)) (rises_with cells place held rise);
      };
})

-- the same at the end of a call
pub laid_there : {T E : Type 0} (cells later : Cells) (place : ℕ × ℕ) (held : ℕ × ℤ) (end : Result T E) → OnOk end (later ≡ with_cell cells place held) → OnOk end (cell_at later place ≡ Some held)
laid_there cells later place held (Ok done) ok = ap (λ (cs : Cells). cell_at cs place) ok ∙ laid_here cells place held
laid_there cells later place held (Err fault) ok = tt

pub laid_others : {T E : Type 0} (cells later : Cells) (place : ℕ × ℕ) (held : ℕ × ℤ) (end : Result T E) → OnOk end (later ≡ with_cell cells place held)
    → OnOk end ((other : ℕ × ℕ) → other ≢ place → cell_at later other ≡ cell_at cells other)
laid_others cells later place held (Ok done) ok = λ other differs. ap (λ (cs : Cells). cell_at cs other) ok ∙ laid_elsewhere cells place other held differs
laid_others cells later place held (Err fault) ok = tt
