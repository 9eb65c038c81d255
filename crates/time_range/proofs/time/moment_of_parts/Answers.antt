use Rattle.std.proofs.Common.{sym, ◌∙◌}
use Rattle.time_range.proofs.TimeLemmas.{count_has_digits}
use Rattle.time_range.proofs.time.moment_of_parts.Goals as goal

pub counted-requires : goal.counted-requires
counted-requires c = count_has_digits c.args.reference.now (sym c.is_count.ensures ∙ c.if-is_count.true)
