use Rattle.std.proofs.Common.{false}
use Rattle.name_pattern.proofs.PlainLemmas.{starts_bare, told_more}
use Rattle.name_pattern.proofs.plain.text_of.Goals as goal

pub returns-in_default : goal.returns-in_default
returns-in_default c =
    told_more c.text_before-in_default.result (λ p h. (h.0, starts_bare _ p.text.items false p.at_end h.1)) c.text_before-in_default.ensures
