use Rattle.std.proofs.Common.{sym, ◌∙◌}
use Rattle.std.specs.Int.{int_max}
use Rattle.std.proofs.lemmas.Iterator.{YieldsList-from_slice}
use Rattle.std.proofs.lemmas.Iterator.Adapters.{option_map_id}
use Rattle.std.proofs.lemmas.Iterator.Consumers.{reduce_by_from_yields_List, YieldsList-from_copied}
use Rattle.rollup.proofs.PickedValues.{greater_of}
use Rattle.rollup.proofs.picked.greatest.Goals as goal

pub returns : goal.returns
returns c = sym (option_map_id _) ∙ reduce_by_from_yields_List _ int_max c.copied.result _ greater_of c.max.ensures.ran (YieldsList-from_copied (YieldsList-from_slice c.args.known.now cc))
