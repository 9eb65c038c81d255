use Rattle.std.proofs.Common.{ℤ, Option, sym, ◌∙◌, rules}
use Rattle.std.specs.Int.{int_max}
use Rattle.std.proofs.lemmas.Iterator.{YieldsList-from_slice}
use Rattle.std.proofs.lemmas.Iterator.Adapters.{option_map_id}
use Rattle.std.proofs.lemmas.Iterator.Consumers.{reduce_by_from_yields_List, YieldsList-from_filter_map}
use Rattle.series_pick.proofs.MeasureLemmas.{greater_of}
use Rattle.series_pick.proofs.measures.greatest_known.Goals as goal

pub returns : goal.returns
returns c =
    sym (option_map_id _)
    ∙ reduce_by_from_yields_List _ int_max c.filter_map.result _ greater_of c.max.ensures.ran
    (YieldsList-from_filter_map _ (λ (value : Option ℤ). value) (YieldsList-from_slice c.args.values.now cc) c.filter_map.ensures.closure (λ x r q k. search rules))
