use Rattle.std.proofs.Common.{rules, ◌≡◌, ℕ, Option, subst, length}
use Rattle.std.specs.Prelude.{min}
use Rattle.outside_io.specs.Image.{LengthIs}
use Rattle.ring_look.proofs.FoundLemmas.{found_on_disk, readable_on_disk}
use Rattle.ring_look.proofs.found.look_at.Goals as goal

pub returns-in-Ok-clause-found : goal.returns-in-Ok-clause-found
returns-in-Ok-clause-found g c =
    let count : length c.read_at.new.buf ≡ min 316 c.in-Ok-Some.size = search rules in
    found_on_disk (g.D.Disk.image c.args.disk.now) (g.D.Disk.image c.length.new.self) c.args.name.now c.read_at.new.buf c.in-Ok-Some.size c.found_by.result
    c.length.ensures.kept
    (subst (λ (answer : Option ℕ). LengthIs (g.D.Disk.image c.args.disk.now) c.args.name.now answer) c.in-Ok-Some.field-0-is c.in-Ok-Some.ensures.value) count c.in-Ok.ensures.bytes c.found_by.ensures.value

pub returns-in-Ok-clause-readable : goal.returns-in-Ok-clause-readable
returns-in-Ok-clause-readable g c =
    let count : length c.read_at.new.buf ≡ min 316 c.in-Ok-Some.size = search rules in
    readable_on_disk (g.D.Disk.image c.args.disk.now) (g.D.Disk.image c.length.new.self) c.args.name.now c.read_at.new.buf c.in-Ok-Some.size c.found_by.result
    c.length.ensures.kept
    (subst (λ (answer : Option ℕ). LengthIs (g.D.Disk.image c.args.disk.now) c.args.name.now answer) c.in-Ok-Some.field-0-is c.in-Ok-Some.ensures.value) count c.in-Ok.ensures.bytes c.found_by.ensures.begins
