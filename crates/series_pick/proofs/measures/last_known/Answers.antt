use Rattle.std.proofs.Common.{is_some, ap, ◌∙◌, rules}
use Rattle.std.specs.Option.{option_flatten}
use Rattle.std.proofs.lemmas.Iterator.Adapters.{YieldsList-from_rev_slice}
use Rattle.std.proofs.lemmas.Iterator.Search.{find_from_yields_List}
use Rattle.series_pick.proofs.MeasureLemmas.{last_is}
use Rattle.series_pick.proofs.measures.last_known.Goals as goal

pub returns : goal.returns
returns c =
    c.flattened.ensures
    ∙ ap option_flatten (c.copied.ensures ∙ find_from_yields_List is_some _ _ c.find.result c.find.ensures.ran (YieldsList-from_rev_slice c.args.values.now cc) (λ x b q k. search rules))
    ∙ last_is c.args.values.now
