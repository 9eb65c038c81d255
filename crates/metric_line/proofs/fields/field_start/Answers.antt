use Rattle.std.proofs.Common.{◌∙◌}
use Rattle.fixed_num.proofs.DigitLemmas.{position_or_len-from_position}
use Rattle.metric_line.proofs.fields.field_start.Goals as goal

pub returns-clause-place : goal.returns-clause-place
returns-clause-place c = c.unwrap_or.ensures ∙ position_or_len-from_position _ _ _ c.no_blank_in.ensures
