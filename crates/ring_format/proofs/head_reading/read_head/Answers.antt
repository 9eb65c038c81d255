use Rattle.std.proofs.Common.{◌∙◌, arith}
use Rattle.ring_format.proofs.ReadHeads.{ok_is_written}
use Rattle.ring_format.proofs.WrittenHeads.{written_head}
use Rattle.ring_format.proofs.head_reading.read_head.Goals as goal

pub returns-clause-read : goal.returns-clause-read
returns-clause-read c = ok_is_written c.args.bytes.now c.args.size c.layout_of_head.result (λ i. omega (arith, c.type_inv.bytes i)) c.requires c.layout_of_head.ensures

pub returns-clause-written : goal.returns-clause-written
returns-clause-written c = λ layout version known lawful begins long. c.layout_of_head.ensures ∙ written_head version layout c.args.bytes.now c.args.size known lawful begins long
