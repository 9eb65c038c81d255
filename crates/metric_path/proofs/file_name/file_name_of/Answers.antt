use Rattle.std.proofs.Common.{rules, tests}
use Rattle.std.proofs.lemmas.Iterator.{YieldsList-from_map, YieldsList-from_slice}
use Rattle.std.proofs.lemmas.Iterator.Adapters.{items_from_extend}
use Rattle.metric_path.specs.FileName.{slash_for_dot}
use Rattle.metric_path.proofs.file_name.file_name_of.Goals as goal

pub returns : goal.returns
returns c =
    let extended = items_from_extend c.extend.result c.extend.ensures.ran
    (YieldsList-from_map _ slash_for_dot (YieldsList-from_slice c.args.text.now cc) c.map.ensures.closure (λ x r q called. search (rules, tests))) in
    search rules
