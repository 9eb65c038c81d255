use Rattle.std.proofs.Common.{◌∙◌}
use Rattle.fixed_num.proofs.DigitLemmas.{position_or_len-from_position}
use Rattle.time_range.proofs.SpanLemmas.{digits_are_digits}
use Rattle.time_range.proofs.spans.digit_count.Goals as goal

pub returns-clause-count : goal.returns-clause-count
returns-clause-count c = c.unwrap_or.ensures ∙ position_or_len-from_position _ _ _ c.no_digit_in.ensures

pub returns-clause-digits : goal.returns-clause-digits
returns-clause-digits c = digits_are_digits c.args.text.now
