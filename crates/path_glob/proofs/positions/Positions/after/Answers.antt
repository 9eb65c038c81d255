use Rattle.std.proofs.Common.{arith}
use Rattle.path_glob.specs.Positions.{held}
use Rattle.path_glob.proofs.PositionLemmas.{leads_any_row, leads_byte}
use Rattle.path_glob.proofs.positions.Positions.after.Goals as goal

pub returns-in-AnyRow : goal.returns-in-AnyRow
returns-in-AnyRow c =
    rw c.in-AnyRow.is (leads_any_row c.args.node.now (held c.args.self) (held c.after_any_row.result) (λ j within. c.after_any_row.ensures j (omega (arith, within, c.requires))))

pub returns-in-Byte : goal.returns-in-Byte
returns-in-Byte c =
    rw c.in-Byte.is (leads_byte c.in-Byte.bytes c.args.node.now (held c.args.self) (held c.after_byte.result) c.after_byte.ensures.first c.after_byte.ensures.next)
