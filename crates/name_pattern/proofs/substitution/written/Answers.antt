use Rattle.std.proofs.Common.{◌++◌, sym, ap, ◌∙◌, string_bytes, List, ℕ}
use Rattle.std.specs.Str.Iter.{chars_rest}
use Rattle.name_pattern.proofs.SubstitutionLemmas.{writes_end}
use Rattle.name_pattern.proofs.substitution.written.Goals as goal

pub returns : goal.returns
returns c =
    c.in_ok-push_opened.ensures
    ∙ ap (λ (l : List ℕ). string_bytes c.loop-c.out ++ l) (sym (writes_end _ c.loop-c.is_open (chars_rest c.loop-c.c-iterator) c.in-None.ensures.steps.0.0))
    ∙ c.loop-c.invariant
