use Rattle.std.proofs.Common.{◌∙◌, arith}
use Rattle.ring_format.proofs.RowLemmas.{drop_later}
use Rattle.ring_format.proofs.head.write_head.Goals as goal

pub returns-clause-behind : goal.returns-clause-behind
returns-clause-behind c =
    c.put_rows.ensures.behind ∙ drop_later c.put_front.new.out c.args.out.now 16 c.put_rows.result c.put_front.ensures.behind (omega (arith, c.put_rows.ensures.end))
