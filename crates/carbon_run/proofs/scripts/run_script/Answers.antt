use Rattle.shard_set.specs.Disks.{told_at}
use Rattle.shard_set.specs.Opening.{settings_of}
use Rattle.shard_set.proofs.StateLemmas.{all_ready}
use Rattle.std.proofs.Common.{option_map, refl}
use Rattle.sample_text.specs.Sources.{left_of}
use Rattle.carbon_run.specs.Runs.{answer_of, behind, streams_of}
use Rattle.carbon_run.proofs.RunLemmas.{started}
use Rattle.carbon_run.proofs.scripts.run_script.Goals as goal

pub run_shards-requires : goal.run_shards-requires
run_shards-requires g c =
    let starts = c.in-Ok.ensures.starts in
    all_ready (settings_of c.args.setup.now) c.args.setup.now.redo (told_at c.in-Ok.started.shards.items) c.args.disks.items c.in-Ok.started.shards.items starts.all starts.each (λ k. refl)

pub returns-in-Ok-clause-comes : goal.returns-in-Ok-clause-comes
returns-in-Ok-clause-comes g c =
    started (settings_of c.args.setup.now) c.args.setup.now.redo c.args.disks.items c.in-Ok.started.shards.items (behind (option_map left_of c.args.front) (streams_of g.S.Source g.K.Sink c.args.input.now c.run_shards.new.input c.args.out.now c.run_shards.new.out))
    (answer_of c.run_shards.result.status c.run_shards.result.history c.run_shards.result.disks.items) c.in-Ok.ensures.starts c.run_shards.ensures.runs
