use Rattle.std.proofs.Common.{subst, sym}
use Rattle.std.specs.List.Sorted.{IsPermutation}
use Rattle.shard_core.proofs.StartingLemmas.{damaged_known, opened_known}
use Rattle.shard_core.proofs.starting.read_table.Goals as goal

pub returns-in-Ok-table_of-clause-opens : goal.returns-in-Ok-table_of-clause-opens
returns-in-Ok-table_of-clause-opens g c =
    let sorted = subst (λ names. IsPermutation c.in-Ok.names.items names) (sym c.as_slice.ensures.value) c.sort.ensures.permutation in
    opened_known c.args.class (g.D.Disk.image c.args.disk.now) (g.D.Disk.image c.names.new.self) c.in-Ok.names.items c.as_slice.result.now c.in-Ok-table_of.table
    c.names.ensures.kept c.in-Ok.ensures.listed sorted c.in-Ok-table_of.ensures.noted

pub returns-clause-damaged : goal.returns-clause-damaged
returns-clause-damaged g c =
    let sorted = subst (λ names. IsPermutation c.in-Ok.names.items names) (sym c.as_slice.ensures.value) c.sort.ensures.permutation in
    damaged_known c.in-Err-table_of.fault c.args.class (g.D.Disk.image c.args.disk.now) (g.D.Disk.image c.names.new.self) c.in-Ok.names.items c.as_slice.result.now
    c.names.ensures.kept c.in-Ok.ensures.listed sorted c.in-Err-table_of.ensures.damaged
