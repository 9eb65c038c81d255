-- Where the first piece of a row leads.
use Rattle.std.specs.Prelude.{◌≡◌, ℕ, ◌<◌, Bool, List, [], ◌∷◌, length, Option, Some, None}
use Rattle.path_glob.specs.Glob.{Covers, Simple}
use Rattle.path_glob.specs.Positions.{Leads, held}
use Rattle.path_glob.specs.Reading.{row_of}
use Rattle.path_glob.specs.declared.cover.Step.{Step}

-- the positions behind the first piece of a row, and what follows it
abbrev pub StepIn : List ℕ → List ℕ → (ℕ → Bool) → Option Step → Type 0
StepIn row node old None = row_of row ≡ []
StepIn row node old (Some step) =
    (piece : Simple) × (row_of row ≡ piece ∷ row_of step.after.now) × (length step.after.now < length row)
    × Leads (Covers piece) node old (held step.reached)
