use Rattle.std.proofs.Common.{◌∙◌, ap, sym}
use Rattle.std.specs.Option.{option_map}
use Rattle.std.specs.Map.Iter.{deref_pair}
use Rattle.std.proofs.lemmas.Option.{get_or_from_slice_get}
use Rattle.point_cache.proofs.KeptLemmas.{number}
use Rattle.point_cache.proofs.metric_map.number_at.Goals as goal

pub returns : goal.returns
returns c =
    let here = sym c.get_index.ensures.entry ∙ ap (option_map deref_pair) c.in-Some.is in
    sym (ap number (get_or_from_slice_get c.args.entries.now.entries c.args.place (c.in-Some.field-0-0.now, c.in-Some.numbered.now) _ here))
