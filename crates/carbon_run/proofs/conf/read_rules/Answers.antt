use Rattle.std.proofs.Common.{Ok, sym}
use Rattle.carbon_run.specs.Conf.{aggregations_name, schemas_name}
use Rattle.carbon_run.proofs.ConfLemmas.{front_named, refused_known, rules_known}
use Rattle.carbon_run.proofs.conf.read_rules.Goals as goal

pub returns-in-Ok-rules_of-clause-rules : goal.returns-in-Ok-rules_of-clause-rules
returns-in-Ok-rules_of-clause-rules g c =
    let old = g.D.Disk.image c.args.conf.now in
    let mid = g.D.Disk.image c.read_front.new.conf in
    rules_known old mid c.in-Ok.schemas.items c.in-Ok-read_front.aggregations.items (Ok c.in-Ok-rules_of.rules) c.in-Ok.ensures.frame.kept
    (front_named old c.name_of.result.now schemas_name c.in-Ok.schemas.items c.name_of.ensures.value c.in-Ok.ensures.bytes)
    (front_named mid c.name_of-2.result.now aggregations_name c.in-Ok-read_front.aggregations.items c.name_of-2.ensures.value c.in-Ok-read_front.ensures.bytes)
    (rw (sym c.as_slice.ensures.value) (rw (sym c.as_slice-2.ensures.value) c.in-Ok-rules_of.ensures.rules))

pub returns-in-Err-rules_of-clause-refused : goal.returns-in-Err-rules_of-clause-refused
returns-in-Err-rules_of-clause-refused g c =
    let old = g.D.Disk.image c.args.conf.now in
    let mid = g.D.Disk.image c.read_front.new.conf in
    refused_known c.in-Err-rules_of.fault old mid c.in-Ok.schemas.items c.in-Ok-read_front.aggregations.items c.in-Ok.ensures.frame.kept
    (front_named old c.name_of.result.now schemas_name c.in-Ok.schemas.items c.name_of.ensures.value c.in-Ok.ensures.bytes)
    (front_named mid c.name_of-2.result.now aggregations_name c.in-Ok-read_front.aggregations.items c.name_of-2.ensures.value c.in-Ok-read_front.ensures.bytes)
    (rw (sym c.as_slice.ensures.value) (rw (sym c.as_slice-2.ensures.value) c.in-Err-rules_of.ensures.fault))
