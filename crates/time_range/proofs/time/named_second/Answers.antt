use Rattle.std.proofs.Common.{sym, ◌∙◌}
use Rattle.time_range.proofs.TimeLemmas.{date_has_eight}
use Rattle.time_range.proofs.time.named_second.Goals as goal

pub date_second-requires-clause-eight : goal.date_second-requires-clause-eight
date_second-requires-clause-eight c = date_has_eight c.args.text.now c.requires (sym c.is_digits.ensures ∙ c.if-is_digits.true)
