use Rattle.std.proofs.Common.{arith}
use Rattle.name_pattern.proofs.PlainLemmas.{empty_all, starts_alone, starts_empty}
use Rattle.name_pattern.proofs.plain.end_of.Goals as goal

pub returns : goal.returns
returns c =
    starts_alone c.args.parts.now c.part-item.result (omega (arith, c.in-len1.len_at_least, c.in-len1.len_below)) c.part-item.is
    (c.asserts.ensures c.if-asserts.true)

pub returns-then-all_match_empty : goal.returns-then-all_match_empty
returns-then-all_match_empty c =
    starts_empty _ (empty_all c.args.parts.now (c.all_match_empty.ensures c.if-all_match_empty.true))
