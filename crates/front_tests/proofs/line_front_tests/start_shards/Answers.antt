use Rattle.std.proofs.Common.{refl}
use Rattle.shard_set.specs.Disks.{told_at}
use Rattle.shard_set.proofs.StateLemmas.{all_ready}
use Rattle.front_tests.proofs.line_front_tests.start_shards.Goals as goal

pub returns-in-Ok : goal.returns-in-Ok
returns-in-Ok c =
    let starts = c.in-Ok.ensures.starts in
    all_ready _ _ (told_at c.in-Ok.started.shards.items) _ c.in-Ok.started.shards.items starts.all starts.each (λ k. refl)
