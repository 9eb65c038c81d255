use Rattle.std.proofs.Common.{refl}
use Rattle.shard_set.specs.Disks.{told_at}
use Rattle.shard_set.proofs.StateLemmas.{all_ready}
use Rattle.front_tests.proofs.http_front_kit.serve_disks.Goals as goal

pub serve_shards-requires : goal.serve_shards-requires
serve_shards-requires g c =
    let starts = c.in-Ok.ensures.starts in
    all_ready _ _ (told_at c.in-Ok.started.shards.items) c.args.disks.items c.in-Ok.started.shards.items starts.all starts.each (λ k. refl)
