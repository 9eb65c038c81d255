use Rattle.std.proofs.Common.{sym, ◌∙◌}
use Rattle.name_pattern.proofs.PlainLemmas.{text_finds, text_misses}
use Rattle.name_pattern.proofs.name_test.ask.Goals as goal

pub returns-in_default : goal.returns-in_default
returns-in_default c = λ re asks. text_misses re _ _ _ c.args.name.now asks c.in_default.ensures.none

pub returns-then-is_cut : goal.returns-then-is_cut
returns-then-is_cut c = λ re asks.
    text_finds re _ _ _ c.args.name.now c.in-Some.at asks c.in-Some.ensures.some (sym c.is_cut.ensures ∙ c.if-is_cut.true)
