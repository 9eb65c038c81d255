use Rattle.std.proofs.Common.{Ok, sym}
use Rattle.carbon_run.specs.Conf.{agg_rules_name}
use Rattle.carbon_run.proofs.ConfLemmas.{agg_refused_known, agg_rules_known, front_named}
use Rattle.carbon_run.proofs.conf.read_agg_rules.Goals as goal

pub returns-in-Ok-agg_rules_of-clause-rules : goal.returns-in-Ok-agg_rules_of-clause-rules
returns-in-Ok-agg_rules_of-clause-rules g c =
    let old = g.D.Disk.image c.args.conf.now in
    agg_rules_known old c.in-Ok.text.items (Ok c.in-Ok-agg_rules_of.rules)
    (front_named old c.name_of_agg_rules.result.now agg_rules_name c.in-Ok.text.items c.name_of_agg_rules.ensures.value c.in-Ok.ensures.bytes)
    (rw (sym c.as_slice.ensures.value) c.in-Ok-agg_rules_of.ensures.rules)

pub returns-in-Err-agg_rules_of-clause-refused : goal.returns-in-Err-agg_rules_of-clause-refused
returns-in-Err-agg_rules_of-clause-refused g c =
    let old = g.D.Disk.image c.args.conf.now in
    agg_refused_known c.in-Err-agg_rules_of.fault old c.in-Ok.text.items
    (front_named old c.name_of_agg_rules.result.now agg_rules_name c.in-Ok.text.items c.name_of_agg_rules.ensures.value c.in-Ok.ensures.bytes)
    (rw (sym c.as_slice.ensures.value) c.in-Err-agg_rules_of.ensures.fault)
