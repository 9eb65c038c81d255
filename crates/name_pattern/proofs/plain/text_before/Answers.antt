use Rattle.std.proofs.Common.{refl}
use Rattle.name_pattern.proofs.PlainLemmas.{starts_literal}
use Rattle.name_pattern.proofs.plain.text_before.Goals as goal

pub returns : goal.returns
returns c = (refl, rw c.in_ok-text.ensures.items (starts_literal _ _ _ c.in-Some.ensures))
