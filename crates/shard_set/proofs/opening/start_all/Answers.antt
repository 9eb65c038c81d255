use Rattle.std.proofs.Common.{◌≡◌, arith, length}
use Rattle.shard_set.specs.Opening.{settings_of}
use Rattle.shard_set.proofs.OpeningLemmas.{if_err_both, if_ok_more, none_started, refuses_all, starts_all}
use Rattle.shard_set.proofs.opening.start_all.Goals as goal

pub returns-in-Ok-clause-starts : goal.returns-in-Ok-clause-starts
returns-in-Ok-clause-starts g c =
    let sixteen : length c.args.disks.items ≡ 16 = omega (arith, c.requires, c.args.disks.ok.0) in
    if_ok_more c.start_each.result _ _ c.start_each.ensures.starts (λ started each.
    starts_all (settings_of c.args.setup.now) c.args.setup.now.redo c.args.disks.items started.shards.items sixteen started.all each)

pub returns-in-Ok-clause-refused : goal.returns-in-Ok-clause-refused
returns-in-Ok-clause-refused g c =
    let sixteen : length c.args.disks.items ≡ 16 = omega (arith, c.requires, c.args.disks.ok.0) in
    if_err_both c.start_each.result _ _ _ c.start_each.ensures.refused c.start_each.ensures.class (λ refused hands few.
    refuses_all c.args.disks.items refused.disks.items refused.refusal sixteen few hands)

pub returns-in-Err-clause-refused : goal.returns-in-Err-clause-refused
returns-in-Err-clause-refused g c = none_started g.D.Disk c.args.disks.items (omega (arith, c.requires, c.args.disks.ok.0))
