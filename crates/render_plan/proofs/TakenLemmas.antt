-- The arguments of a call, one after the other.
use Rattle.std.proofs.Common.{◌≡◌, List, [], ◌∷◌, ◌++◌, Option, Some, None, refl, sym, ap, append_assoc}
use Rattle.render_plan.specs.declared.argument.Argument.{Argument}
use Rattle.render_plan.specs.Arguments.{one_before}

-- some arguments, and those of what is left
abbrev pub taken_before : List Argument → Option (List Argument) → Option (List Argument)
taken_before taken None = None
taken_before taken (Some others) = Some (taken ++ others)

pub taken_start : (r : Option (List Argument)) → taken_before [] r ≡ r
taken_start None = refl
taken_start (Some others) = refl

pub taken_next : (taken : List Argument) (next : Argument) (r : Option (List Argument)) → taken_before taken (one_before (Some next) r) ≡ taken_before (taken ++ next ∷ []) r
taken_next taken next None = refl
taken_next taken next (Some others) = ap (λ (l : List Argument). Some l) (sym (append_assoc taken (next ∷ []) others))
