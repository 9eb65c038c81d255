-- The value of a query: what its targets make of the series that it needs.
use Rattle.std.specs.Prelude.{◌≡◌, ℕ, ◌+◌, List, [], ◌∷◌, drop, map, Option, Some, None, Result, Ok, Err}
use Rattle.std.specs.List.{slice_index_or}
use Rattle.std.specs.Result.{result_map_both}
use Rattle.series_set.specs.Series.{SeriesValue}
use Rattle.series_set.specs.Thinned.{thinned}
use Rattle.series_set.specs.declared.grid.EvalFault.{EvalFault}
use Rattle.series_funcs.specs.Combined.{combine}
use Rattle.series_funcs.specs.Divided.{divide}
use Rattle.series_funcs.specs.Moved.{shape}
use Rattle.series_funcs.specs.Regrouped.{regroup}
use Rattle.series_pick.specs.Chosen.{Chooses}
use Rattle.render_plan.specs.declared.operation.Operation.{Operation}
use Rattle.render_plan.specs.declared.operation.Operation.TheVariants as operation
use Rattle.render_plan.specs.declared.settings.Format.{Format}
use Rattle.render_plan.specs.declared.settings.Format.TheVariants.{Json, Raw, Csv}
use Rattle.render_plan.specs.Planned.{Plan}
use Rattle.render_plan.specs.Terms.{Term, Terms, Fetch, Apply, NoTerms, WithTerm, all_terms}
pub use Rattle.render_need.specs.Rows.{Rows, concat}

-- how many paths a target has
abbrev mutual
  pub path_count : Term → ℕ
  path_count (Fetch glob) = 1
  path_count (Apply operation terms) = path_counts terms

  pub path_counts : Terms → ℕ
  path_counts NoTerms = 0
  path_counts (WithTerm term terms) = path_count term + path_counts terms

abbrev pub nth : Rows → ℕ → List SeriesValue
nth sets place = slice_index_or sets place []

-- the series, or others where there are none
abbrev pub or_else : List SeriesValue → List SeriesValue → List SeriesValue
or_else [] others = others
or_else (s ∷ set) others = s ∷ set

-- ---- calls

-- it went well, and what came of it meets a property
abbrev pub IsOkWith : {A : Type 0} → Result A EvalFault → (A → Type 0) → Type 0
IsOkWith (Ok x) P = P x
IsOkWith (Err fault) P = ⊥

-- What a call makes of the series of its arguments, or why these have no value together.
abbrev pub Applies : Operation → Rows → Result (List SeriesValue) EvalFault → Type 0
Applies (operation.Combine kind name path) sets result =
    combine kind (concat sets) name path ≡ result
Applies operation.Divide sets result = divide (nth sets 0) (nth sets 1) ≡ result
Applies operation.Group sets result = Ok (concat sets) ≡ result
Applies operation.Fallback sets result = Ok (or_else (nth sets 0) (nth sets 1)) ≡ result
Applies (operation.Shape kind function tail) sets result =
    shape kind function tail (nth sets 0) ≡ result
Applies (operation.Choose kind) sets result = IsOkWith result (Chooses kind (nth sets 0))
Applies (operation.Regroup kind) sets result = regroup kind (nth sets 0) ≡ result

-- ---- targets

-- what follows from what came first, or its fault
abbrev pub GoesOn : {A B : Type 0} → Result A EvalFault → (A → Result B EvalFault → Type 0)
    → Result B EvalFault → Type 0
GoesOn (Ok x) next result = next x result
GoesOn (Err fault) next result = result ≡ Err fault

abbrev pub set_before : List SeriesValue → Result Rows EvalFault → Result Rows EvalFault
set_before set (Ok sets) = Ok (set ∷ sets)
set_before set (Err fault) = Err fault

-- The value of a target over the series of its paths, one list for each from the left. A call has
-- what its function makes of the values of its
-- arguments. These come before it and from the left, and the first fault that is met is the value
-- of all.
abbrev mutual
  pub HasValue : Term → Rows → Result (List SeriesValue) EvalFault → Type 0
  HasValue (Fetch glob) rows result = result ≡ Ok (nth rows 0)
  HasValue (Apply operation terms) rows result =
      (sets : Result Rows EvalFault) × HaveValues terms rows sets
      × GoesOn sets (Applies operation) result

  pub HaveValues : Terms → Rows → Result Rows EvalFault → Type 0
  HaveValues NoTerms rows result = result ≡ Ok []
  HaveValues (WithTerm term terms) rows result =
      (first : Result (List SeriesValue) EvalFault) × HasValue term rows first
      × GoesOn first (λ set whole. (others : Result Rows EvalFault)
      × HaveValues terms (drop (path_count term) rows) others
      × (whole ≡ set_before set others)) result

-- ---- queries

-- how many values a series of the answer may have: only JSON has fewer than there are
abbrev pub most_of : Format → Option ℕ → Option ℕ
most_of Json points = points
most_of Raw points = None
most_of Csv points = None

abbrev pub thinned_all : Option ℕ → List SeriesValue → List SeriesValue
thinned_all None set = set
thinned_all (Some most) set = map (thinned most) set

abbrev pub answer_of : Plan → Result Rows EvalFault → Result (List SeriesValue) EvalFault
answer_of plan values =
    result_map_both (λ sets. thinned_all (most_of plan.format plan.points) (concat sets))
    (λ fault. fault) values

-- The answer to a query over the series of its needs: the series of its targets, in order.
abbrev pub Answers : Plan → Rows → Result (List SeriesValue) EvalFault → Type 0
Answers plan rows result =
    (values : Result Rows EvalFault) × HaveValues (all_terms plan.targets) rows values
    × (result ≡ answer_of plan values)
