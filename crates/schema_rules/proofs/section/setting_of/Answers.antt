use Rattle.std.proofs.Common.{sym, ◌∙◌, ap}
use Rattle.std.specs.List.{position}
use Rattle.schema_rules.specs.RuleLines.{is_separator}
use Rattle.schema_rules.proofs.TextLemmas.{separator_is_ascii}
use Rattle.schema_rules.proofs.section.setting_of.Goals as goal

pub value_behind-requires-clause-ascii : goal.value_behind-requires-clause-ascii
value_behind-requires-clause-ascii c =
    separator_is_ascii c.args.line.now c.in_ok-at.at (ap (position is_separator) (sym c.as_bytes.ensures.value) ∙ (sym c.separator_in.ensures ∙ c.in_ok-at.was))
