use Rattle.std.proofs.Common.{ℕ, Option, sym, ap, ◌∙◌, rules}
use Rattle.std.specs.Option.{unwrap_or}
use Rattle.std.proofs.lemmas.Iterator.{YieldsList-from_map, YieldsList-from_slice}
use Rattle.std.proofs.lemmas.Iterator.Adapters.{option_map_id}
use Rattle.std.proofs.lemmas.Iterator.Consumers.{max_from_yields_List}
use Rattle.series_set.specs.Series.{end_of}
use Rattle.series_set.proofs.common.greatest_end.Goals as goal

pub returns-clause-value : goal.returns-clause-value
returns-clause-value c = c.unwrap_or.ensures ∙ ap (λ (o : Option ℕ). unwrap_or o 0) (sym (option_map_id _) ∙ max_from_yields_List c.map.result _ c.max.ensures.ran (YieldsList-from_map _ end_of (YieldsList-from_slice c.args.series.now cc) c.map.ensures.closure (λ x r q k. search rules)))
