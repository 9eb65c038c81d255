use Rattle.aggregate_rules.proofs.TextLemmas.{name_is_utf8}
use Rattle.aggregate_rules.proofs.names.as_text.Goals as goal

pub unreachable-requires : goal.unreachable-requires
unreachable-requires c = c.in-Err.ensures.cases.0 (name_is_utf8 c.args.name.now c.requires)
