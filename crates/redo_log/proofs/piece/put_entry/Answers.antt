use Rattle.std.proofs.Common.{◌≡◌, ◌∙◌, ◌+◌, ℕ, ap, take, arith}
use Rattle.redo_log.specs.Body.{entry_size}
use Rattle.redo_log.proofs.CellLemmas.{entry_written}
use Rattle.redo_log.proofs.piece.put_entry.Goals as goal

pub returns-clause-written : goal.returns-clause-written
returns-clause-written c =
    let end : c.args.at + entry_size ≡ c.put_bytes.result = omega (arith, c.put_number-slot.ensures.end, c.put_number-held.ensures.end, c.put_bytes.ensures.end, c.write_cell.array_long) in
    entry_written c.args.cell.now (take c.args.at c.args.out.now) (take c.put_number-slot.result c.put_number-slot.new.out) (take c.put_number-held.result c.put_number-held.new.out) (take (c.args.at + entry_size) c.put_bytes.new.out) c.write_cell.new.out
    c.put_number-slot.ensures.written c.put_number-held.ensures.written (ap (λ (n : ℕ). take n c.put_bytes.new.out) end ∙ c.put_bytes.ensures.written) c.write_cell.ensures.bytes
