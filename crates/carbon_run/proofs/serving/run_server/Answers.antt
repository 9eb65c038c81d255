use Rattle.std.proofs.Common.{refl}
use Rattle.shard_set.specs.Disks.{told_at}
use Rattle.shard_set.specs.Opening.{settings_of}
use Rattle.shard_set.proofs.StateLemmas.{all_ready}
use Rattle.carbon_serve.specs.Courses.{staff_of}
use Rattle.carbon_run.specs.Runs.{answer_of}
use Rattle.carbon_run.specs.Serves.{duties_of, passes_for, unread}
use Rattle.carbon_run.proofs.ServingLemmas.{served_over}
use Rattle.carbon_run.proofs.serving.run_server.Goals as goal

pub bind_shards-requires-clause-ready : goal.bind_shards-requires-clause-ready
bind_shards-requires-clause-ready g c κs within =
    let starts = c.in-Ok.ensures.starts in
    all_ready (settings_of c.args.setup.now) c.args.setup.now.redo (told_at c.in-Ok.started.shards.items) c.args.disks.items c.in-Ok.started.shards.items starts.all starts.each (λ k. refl)

pub returns-in-Ok-clause-runs : goal.returns-in-Ok-clause-runs
returns-in-Ok-clause-runs g c =
    served_over {D = g.row.D.Denot} {E = g.row.E.Denot} {d = g.D.Disk} g.E.Net.faults c.args.net.now c.bind_shards.new.net (settings_of c.args.setup.now) c.args.setup.now.redo c.args.disks.items c.in-Ok.started.shards.items
    (staff_of g.C.Clock g.E.L.Source g.E.L.Sink c.args.clock.now c.args.agg_rules.now (duties_of c.args.options) (passes_for c.args.options))
    (unread (g.K.Sink.written c.args.out.now) (g.K.Sink.written c.bind_shards.new.out)) (answer_of c.bind_shards.result.status c.bind_shards.result.history c.bind_shards.result.disks.items) c.in-Ok.ensures.starts c.bind_shards.ensures.serves
