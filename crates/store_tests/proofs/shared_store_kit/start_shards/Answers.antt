use Rattle.std.proofs.Common.{refl}
use Rattle.shard_set.specs.Disks.{told_at}
use Rattle.shard_set.proofs.StateLemmas.{all_ready}
use Rattle.store_tests.proofs.shared_store_kit.start_shards.Goals as goal

pub returns-in-Ok : goal.returns-in-Ok
returns-in-Ok g c =
    let starts = c.in-Ok.ensures.starts in
    all_ready _ _ (told_at c.in-Ok.started.shards.items) c.args.disks.items c.in-Ok.started.shards.items starts.all starts.each (λ k. refl)
