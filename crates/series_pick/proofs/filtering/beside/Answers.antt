use Rattle.std.proofs.Common.{ap, filter, ◌∙◌, rules}
use Rattle.std.proofs.lemmas.Fn.{filter_same}
use Rattle.series_pick.specs.Measures.{is_beside}
use Rattle.series_pick.proofs.filtering.beside.Goals as goal

pub returns : goal.returns
returns c =
    c.from_vec.ensures ∙ filter_same _ (is_beside c.args.measure c.args.side c.args.bound) _ (λ x b q k. search rules) _ _ c.retain.ensures.filtered
    ∙ ap (filter (is_beside c.args.measure c.args.side c.args.bound)) c.into_vec-series.ensures
