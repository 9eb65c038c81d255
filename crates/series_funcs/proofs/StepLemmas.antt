-- Lists of series one after the other, and the first step that is too wide.
use Rattle.std.proofs.Common.{◌≡◌, ℕ, ◌+◌, ◌<◌, List, [], ◌∷◌, ◌++◌, length, get_or, take, drop, map, Option, Some, None, option_map, Result, Ok, Err, refl, sym, ap, ◌∙◌}
use Rattle.std.specs.Option.{option_map_or, option_or}
use Rattle.std.proofs.lemmas.List.{drop_more, map-append, take-append-drop, take_more}
use Rattle.series_set.specs.declared.grid.EvalFault.{EvalFault}
use Rattle.series_set.specs.declared.grid.EvalFault.TheVariants.{StepTooWide}
use Rattle.series_set.specs.Series.{SeriesValue}
use Rattle.series_set.specs.CommonGrid.{first_wide, steps_of, wide_multiple}
use Rattle.series_funcs.specs.StepsFirst.{steps_first}

wide_behind : (xs ys : List (List SeriesValue)) → first_wide xs ≡ None → first_wide (xs ++ ys) ≡ first_wide ys
wide_behind [] ys none = refl
wide_behind (x ∷ xs) ys none = by (wide_multiple (steps_of x)) none (wide_behind xs ys)
  where
    by : (o : Option ℕ) → option_or o (first_wide xs) ≡ None → (first_wide xs ≡ None → first_wide (xs ++ ys) ≡ first_wide ys) → option_or o (first_wide (xs ++ ys)) ≡ first_wide ys
    by None none more = more none
    by (Some m) none more = cc

-- one more that fits
pub wide_more : {X : Type 0} (f : X → List SeriesValue) (xs : List X) (i : ℕ) (x : X) → i < length xs → x ≡ get_or xs i x → first_wide (map f (take i xs)) ≡ None → wide_multiple (steps_of (f x)) ≡ None
    → first_wide (map f (take (i + 1) xs)) ≡ None
wide_more f xs i x within is so_far fits =
    let last : first_wide (f x ∷ []) ≡ None = rw fits refl in
    ap (λ l. first_wide (map f l)) (take_more xs i x within)
    ∙ ap first_wide (map-append f (take i xs) (get_or xs i x ∷ []))
    ∙ wide_behind (map f (take i xs)) (f (get_or xs i x) ∷ []) so_far
    ∙ ap (λ y. first_wide (f y ∷ [])) (sym is)
    ∙ last

first_found : {X : Type 0} (f : X → List SeriesValue) (xs : List X) (i : ℕ) (x : X) (m : ℕ) → i < length xs → x ≡ get_or xs i x → first_wide (map f (take i xs)) ≡ None → wide_multiple (steps_of (f x)) ≡ Some m
    → first_wide (map f xs) ≡ Some m
first_found f xs i x m within is so_far found =
    let rest = drop (i + 1) xs in
    let last : first_wide (f x ∷ map f rest) ≡ Some m = rw found refl in
    ap (λ l. first_wide (map f l)) (sym (take-append-drop i xs))
    ∙ ap first_wide (map-append f (take i xs) (drop i xs))
    ∙ wide_behind (map f (take i xs)) (map f (drop i xs)) so_far
    ∙ ap (λ l. first_wide (map f l)) (drop_more xs i x within ∙ ap (λ y. y ∷ rest) (sym is))
    ∙ last

-- the first that does not fit
pub wide_stops : {X : Type 0} (f : X → List SeriesValue) (xs : List X) (i : ℕ) (x : X) (fault : EvalFault) → i < length xs → x ≡ get_or xs i x → first_wide (map f (take i xs)) ≡ None
    → option_map StepTooWide (wide_multiple (steps_of (f x))) ≡ Some fault → option_map StepTooWide (first_wide (map f xs)) ≡ Some fault
wide_stops f xs i x fault within is so_far told = by (wide_multiple (steps_of (f x))) refl told
  where
    by : (o : Option ℕ) → wide_multiple (steps_of (f x)) ≡ o → option_map StepTooWide o ≡ Some fault → option_map StepTooWide (first_wide (map f xs)) ≡ Some fault
    by None found told = cc
    by (Some m) found told = ap (option_map StepTooWide) (first_found f xs i x m within is so_far found) ∙ told

-- a step that is too wide is told
pub steps_told : {Y : Type 0} (sets : List (List SeriesValue)) (r : Result Y EvalFault) (fault : EvalFault) → option_map StepTooWide (first_wide sets) ≡ Some fault → steps_first sets r ≡ Err fault
steps_told sets r fault told = by (first_wide sets) told
  where
    by : (o : Option ℕ) → option_map StepTooWide o ≡ Some fault → option_map_or (λ m. Err (StepTooWide m)) o r ≡ Err fault
    by None told = cc
    by (Some m) told = cc

-- where none is, the result stands
pub steps_fit : {Y : Type 0} (sets : List (List SeriesValue)) (r : Result Y EvalFault) → first_wide sets ≡ None → steps_first sets r ≡ r
steps_fit sets r none = rw none refl

-- and a result that stands is that of the call
pub steps_stand : {Y : Type 0} (sets : List (List SeriesValue)) (r : Result Y EvalFault) (y : Y) → steps_first sets r ≡ Ok y → r ≡ Ok y
steps_stand sets r y stands = by (first_wide sets) stands
  where
    by : (o : Option ℕ) → option_map_or (λ m. Err (StepTooWide m)) o r ≡ Ok y → r ≡ Ok y
    by None stands = stands
    by (Some m) stands = cc
