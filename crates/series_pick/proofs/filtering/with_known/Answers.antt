use Rattle.std.proofs.Common.{ap, filter, ◌∙◌, rules}
use Rattle.std.proofs.lemmas.Fn.{filter_same}
use Rattle.series_pick.specs.Measures.{has_known}
use Rattle.series_pick.proofs.filtering.with_known.Goals as goal

pub returns : goal.returns
returns c =
    c.from_vec.ensures ∙ filter_same _ has_known _ (λ x b q k. search rules) _ _ c.retain.ensures.filtered
    ∙ ap (filter has_known) c.into_vec-series.ensures
