-- Which series a query needs.
use Rattle.std.specs.Prelude.{ℕ, ◌+◌, ◌-◌, min, List, [], ◌∷◌, ◌++◌, if◌then◌else◌}
use Rattle.path_glob.specs.Faults.{Said}
use Rattle.series_funcs.specs.declared.kinds.Shape.{Shape}
use Rattle.series_funcs.specs.declared.kinds.Shape.TheVariants.{TimeShift}
use Rattle.time_range.specs.SpanOf.{latest}
use Rattle.render_need.specs.declared.need.Need.{Need}
use Rattle.render_plan.specs.declared.needs.Shift.{Shift}
use Rattle.render_plan.specs.declared.operation.Operation.{Operation}
use Rattle.render_plan.specs.declared.operation.Operation.TheVariants as operation
use Rattle.render_plan.specs.Planned.{Plan}
use Rattle.render_plan.specs.Terms.{Term, Terms, Fetch, Apply, NoTerms, WithTerm, all_terms}
pub use Rattle.render_need.specs.Ends.{AreEnds}

abbrev pub no_shift : Shift
no_shift = record { later = 0; earlier = 0 }

-- a span more, in its direction
abbrev pub with_shape : Shift → Shape → Shift
with_shape shift (TimeShift past seconds) =
    if past then record { later = shift.later; earlier = shift.earlier + seconds }
    else record { later = shift.later + seconds; earlier = shift.earlier }
with_shape shift _ = shift

abbrev pub with_operation : Shift → Operation → Shift
with_operation shift (operation.Shape kind function tail) = with_shape shift kind
with_operation shift _ = shift

-- A moment that is moved once by all spans. It is the epoch where it would be before it, and the
-- latest where it would be after that.
abbrev pub moved : Shift → ℕ → ℕ
moved shift moment = min (moment + shift.later - shift.earlier) latest

-- the series that a path needs within calls that shift it so
abbrev pub need_at : ℕ → ℕ → Shift → Said → Need
need_at from until shift glob =
    record { glob = glob; from = moved shift from; until = moved shift until }

-- The needs of a target, one for each of its paths, from the left. The spans of nested shifts are
-- added up, and then the ends are moved once.
abbrev mutual
  pub needs_in : ℕ → ℕ → Shift → Term → List Need
  needs_in from until shift (Fetch glob) = need_at from until shift glob ∷ []
  needs_in from until shift (Apply operation terms) =
      needs_in_all from until (with_operation shift operation) terms

  pub needs_in_all : ℕ → ℕ → Shift → Terms → List Need
  needs_in_all from until shift NoTerms = []
  needs_in_all from until shift (WithTerm term terms) =
      needs_in from until shift term ++ needs_in_all from until shift terms

-- the needs of a query, in the order of its targets
unfoldable pub needs_of : Plan → List Need
needs_of plan = needs_in_all plan.from plan.until no_shift (all_terms plan.targets)
