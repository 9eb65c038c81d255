use Rattle.std.proofs.Common.{◌≡◌, ℕ, Option, length, rules, subst}
use Rattle.std.specs.Prelude.{min}
use Rattle.outside_io.specs.Image.{LengthIs}
use Rattle.carbon_run.proofs.ConfLemmas.{absent_front, empty_front, read_front}
use Rattle.carbon_run.proofs.conf.read_front.Goals as goal

pub returns-in-Ok-None-clause-bytes : goal.returns-in-Ok-None-clause-bytes
returns-in-Ok-None-clause-bytes g c =
    absent_front (g.D.Disk.image c.args.conf.now) c.args.name.now c.new.result.items
    (subst (λ (answer : Option ℕ). LengthIs (g.D.Disk.image c.args.conf.now) c.args.name.now answer) c.in-Ok-None.field-0-is c.in-Ok-None.ensures.value) c.new.ensures.items

pub returns-then-size-eq0-clause-bytes : goal.returns-then-size-eq0-clause-bytes
returns-then-size-eq0-clause-bytes g c =
    empty_front (g.D.Disk.image c.args.conf.now) c.args.name.now c.new-then-size-eq0.result.items c.in-Ok-Some.size
    (subst (λ (answer : Option ℕ). LengthIs (g.D.Disk.image c.args.conf.now) c.args.name.now answer) c.in-Ok-Some.field-0-is c.in-Ok-Some.ensures.value) c.if-size-eq0.true c.new-then-size-eq0.ensures.items

pub returns-in-Ok-clause-bytes : goal.returns-in-Ok-clause-bytes
returns-in-Ok-clause-bytes g c =
    let count : length c.in-Ok.bytes.items ≡ min 1048577 c.in-Ok-Some.size = search rules in
    read_front (g.D.Disk.image c.args.conf.now) (g.D.Disk.image c.length.new.self) c.args.name.now c.in-Ok.bytes.items c.in-Ok-Some.size c.length.ensures.kept
    (subst (λ (answer : Option ℕ). LengthIs (g.D.Disk.image c.args.conf.now) c.args.name.now answer) c.in-Ok-Some.field-0-is c.in-Ok-Some.ensures.value) count c.in-Ok.ensures.bytes
