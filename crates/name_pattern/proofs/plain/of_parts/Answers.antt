use Rattle.std.proofs.Common.{arith}
use Rattle.name_pattern.proofs.PlainLemmas.{asks_first, asks_past, told_more}
use Rattle.name_pattern.proofs.plain.of_parts.Goals as goal

pub returns-then-asserts : goal.returns-then-asserts
returns-then-asserts c =
    told_more c.text_of-then-asserts.result
    (λ p h. asks_first c.args.parts.now c.first-item.result p (omega (arith, c.in-len1-up.len_at_least)) c.first-item.is (c.asserts.ensures c.if-asserts.true) h.0 h.1)
    c.text_of-then-asserts.ensures

pub returns-then-matches_empty : goal.returns-then-matches_empty
returns-then-matches_empty c =
    told_more c.text_of-then-matches_empty.result
    (λ p h. asks_past c.args.parts.now c.first-item.result p (omega (arith, c.in-len1-up.len_at_least)) c.first-item.is (c.matches_empty.ensures c.if-matches_empty.true) h.0 h.1)
    c.text_of-then-matches_empty.ensures
