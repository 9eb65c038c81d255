-- What happened, as a list.
use Rattle.std.specs.Prelude.{List, [], ◌∷◌, ◌++◌}
use Rattle.trace.specs.declared.trace.Past.{Past, fold-Past}
use Rattle.trace.specs.declared.trace.Past.TheOpen.{Past-F}

-- one thing that happened behind those before it
abbrev pub listed_step : {T : Type 0} → Past-F T (List T) → List T
listed_step Past-F.Nothing = []
listed_step (Past-F.Then before next) = before.value ++ next.value ∷ []

abbrev pub listed : {T : Type 0} → Past T → List T
listed {T} = fold-Past T (List T) listed_step
