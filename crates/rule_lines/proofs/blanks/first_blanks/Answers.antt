use Rattle.std.proofs.Common.{◌∙◌}
use Rattle.rule_lines.proofs.PlaceLemmas.{position_or_len-from_position}
use Rattle.rule_lines.proofs.blanks.first_blanks.Goals as goal

pub returns-clause-count : goal.returns-clause-count
returns-clause-count c = c.unwrap_or.ensures ∙ position_or_len-from_position _ _ _ c.no_blank_in.ensures
