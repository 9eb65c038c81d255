use Rattle.std.proofs.Common.{arith, ℕ, ◌≡◌, ◌∙◌, IfSome, Some, length, map, string_bytes, subst}
use Rattle.std.specs.Prelude.{slice_get}
use Rattle.shard_core.specs.Starting.{Noted}
use Rattle.shard_core.proofs.StartingLemmas.{first_known, name_at, noted_known}
use Rattle.shard_core.proofs.starting.table_of.Goals as goal

pub returns-in-Err-clause-damaged : goal.returns-in-Err-clause-damaged
returns-in-Err-clause-damaged g c =
    let there : slice_get (map string_bytes c.args.names.now) c.loop-name.name-index ≡ Some c.as_str.result.now =
    name_at c.args.names.now c.loop-name.name-index c.name-item.result c.as_str.result.now c.loop-name-test.true c.name-item.is c.as_str.ensures.value in
    first_known c.in-Err.fault c.args.class (g.D.Disk.image c.args.disk.now) (g.D.Disk.image c.loop-name.disk) c.args.names.now c.loop-name.name-index c.as_str.result.now c.loop-name.table
    c.loop-name.invariant.kept c.requires.sorted there c.loop-name.invariant.noted c.in-Err.ensures.damaged

pub loop-name-preserved : goal.loop-name-preserved
loop-name-preserved g c =
    let there : slice_get (map string_bytes c.args.names.now) c.loop-name.name-index ≡ Some c.as_str.result.now =
    name_at c.args.names.now c.loop-name.name-index c.name-item.result c.as_str.result.now c.loop-name-test.true c.name-item.is c.as_str.ensures.value in
    record {
      opened = c.in-Ok.ensures.opened c.loop-name.invariant.opened;
      noted = noted_known c.args.class (g.D.Disk.image c.args.disk.now) (g.D.Disk.image c.loop-name.disk) (map string_bytes c.args.names.now) c.loop-name.name-index c.as_str.result.now c.loop-name.table c.note_file.new.table
          c.loop-name.invariant.kept there c.in-Ok.ensures.notes c.loop-name.invariant.noted;
      kept = c.note_file.ensures.frame.kept ∙ c.loop-name.invariant.kept;
      changes = c.note_file.ensures.frame.changes ∙ c.loop-name.invariant.changes;
      later = omega (arith, c.note_file.ensures.frame.later, c.loop-name.invariant.later);
    }

pub returns-clause-noted : goal.returns-clause-noted
returns-clause-noted g c =
    let end : c.loop-name.name-index ≡ length c.args.names.now = omega (arith, c.loop-name.auto.name-index-end, c.loop-name-test.false) in
    subst (λ (count : ℕ). IfSome (g.D.Disk.image c.args.disk.now) (λ image. Noted c.args.class image (map string_bytes c.args.names.now) count c.loop-name.table)) end c.loop-name.invariant.noted
