use Rattle.std.proofs.Common.{◌∙◌}
use Rattle.fixed_num.proofs.DigitLemmas.{position_or_len-from_position}
use Rattle.time_range.proofs.time.sign_place.Goals as goal

pub returns-clause-value : goal.returns-clause-value
returns-clause-value c = c.unwrap_or.ensures ∙ position_or_len-from_position _ _ _ c.sign_in.ensures
