use Rattle.std.proofs.Common.{rules, tests}
use Rattle.std.proofs.lemmas.Iterator.Consumers.{count_from_yields_List, YieldsList-at, YieldsList-from_filter}
use Rattle.std.proofs.lemmas.Iterator.Splits.{YieldsList-from_slice_split}
use Rattle.metric_line.specs.LineFields.{fields_of, is_blank}
use Rattle.metric_line.proofs.FieldLemmas.{has_bytes}
use Rattle.metric_line.proofs.fields.count_fields.Goals as goal

pub returns : goal.returns
unfolding fields_of
returns c =
    count_from_yields_List c.filter.result c.count.result c.count.ensures.ran
    (YieldsList-from_filter _ has_bytes
    (YieldsList-at c.filter.ensures.source (YieldsList-from_slice_split _ is_blank c.args.line.now c.split.ensures.rest c.split.ensures.done c.split.ensures.closure (λ x b q called. search (rules, tests))))
    c.filter.ensures.closure (λ x b q called. search (rules, tests)))
