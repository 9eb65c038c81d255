use Rattle.std.proofs.Common.{rules, ◌≡◌, ℕ, Option, subst, length}
use Rattle.std.specs.Prelude.{min}
use Rattle.outside_io.specs.Image.{LengthIs}
use Rattle.shard_core.proofs.StartingLemmas.{head_on_disk}
use Rattle.shard_core.proofs.starting.read_file_head.Goals as goal

pub returns-in-Ok-clause-head : goal.returns-in-Ok-clause-head
returns-in-Ok-clause-head g c =
    let count : length c.read_at.new.buf ≡ min 316 c.in-Ok-Some.size = search rules in
    head_on_disk (g.D.Disk.image c.args.disk.now) (g.D.Disk.image c.length.new.self) c.args.name.now c.read_at.new.buf c.in-Ok-Some.size c.classify_head.result
    c.length.ensures.kept
    (subst (λ (answer : Option ℕ). LengthIs (g.D.Disk.image c.args.disk.now) c.args.name.now answer) c.in-Ok-Some.field-0-is c.in-Ok-Some.ensures.value) count c.in-Ok.ensures.bytes c.classify_head.ensures
