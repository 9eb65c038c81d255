use Rattle.std.proofs.Common.{arith, ℕ, length, subst}
use Rattle.shard_core.specs.Started.{StartedFrom}
use Rattle.shard_set.specs.Opening.{settings_of}
use Rattle.shard_set.proofs.ListLemmas.{first_taken}
use Rattle.shard_set.proofs.opening.start_next.Goals as goal

pub returns-in-Ok-push-clause-starts : goal.returns-in-Ok-push-clause-starts
returns-in-Ok-push-clause-starts g c = record {
  disk = c.remove-disk.result;
  shard = c.in-Ok.shard;
  taken = first_taken c.args.disks.now.items c.remove-disk.new.self.items c.remove-disk.result (omega (arith, c.args.disks.now.ok.0, c.requires.next)) c.remove-disk.ensures.value c.remove-disk.ensures.items;
  more = c.in-Ok-push.ensures.items;
  started = subst (λ (class : ℕ). StartedFrom class (settings_of c.args.setup.now) c.args.setup.now.redo c.remove-disk.result c.in-Ok.shard) {x = c.len.result} {y = length c.args.shards.now.items} (omega (arith, c.len.ensures, c.args.shards.now.ok.0)) c.in-Ok.ensures.started;
}
