use Rattle.std.proofs.Common.{sym, ◌∙◌}
use Rattle.std.specs.Int.{int_min}
use Rattle.std.proofs.lemmas.Iterator.{YieldsList-from_slice}
use Rattle.std.proofs.lemmas.Iterator.Adapters.{option_map_id}
use Rattle.std.proofs.lemmas.Iterator.Consumers.{reduce_by_from_yields_List, YieldsList-from_copied}
use Rattle.rollup.proofs.PickedValues.{lesser_of}
use Rattle.rollup.proofs.picked.least.Goals as goal

pub returns : goal.returns
returns c = sym (option_map_id _) ∙ reduce_by_from_yields_List _ int_min c.copied.result _ lesser_of c.min.ensures.ran (YieldsList-from_copied (YieldsList-from_slice c.args.known.now cc))
