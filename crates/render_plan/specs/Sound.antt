-- Targets whose calls nest no deeper than they may, with steps and shifts that are in range.
use Rattle.std.specs.Prelude.{ℕ, ◌-◌, ◌≤◌, ⊤}
use Rattle.series_funcs.specs.Moved.{HasStep}
use Rattle.time_range.specs.SpanOf.{latest}
use Rattle.series_funcs.specs.declared.kinds.Shape.{Shape}
use Rattle.series_funcs.specs.declared.kinds.Shape.TheVariants.{TimeShift}
use Rattle.render_plan.specs.declared.operation.Operation.{Operation}
use Rattle.render_plan.specs.declared.operation.Operation.TheVariants as operation
use Rattle.render_plan.specs.Terms.{Term, Terms, Fetch, Apply, NoTerms, WithTerm}

-- a shift is no longer than to the latest moment
abbrev pub IsShortShift : Shape → Type 0
IsShortShift (TimeShift past seconds) = seconds ≤ latest
IsShortShift _ = ⊤

abbrev pub IsSoundShape : Shape → Type 0
IsSoundShape kind = HasStep kind × IsShortShift kind

abbrev pub IsSoundOperation : Operation → Type 0
IsSoundOperation (operation.Shape kind function tail) = IsSoundShape kind
IsSoundOperation _ = ⊤

-- Calls nest at most so many levels deep, and are sound.
abbrev mutual
  pub IsSound : ℕ → Term → Type 0
  IsSound levels (Fetch glob) = ⊤
  IsSound levels (Apply operation terms) =
      (1 ≤ levels) × IsSoundOperation operation × AreSound (levels - 1) terms

  pub AreSound : ℕ → Terms → Type 0
  AreSound levels NoTerms = ⊤
  AreSound levels (WithTerm term terms) = IsSound levels term × AreSound levels terms
