use Rattle.std.proofs.Common.{arith}
use Rattle.shard_set.specs.Opening.{settings_of}
use Rattle.shard_set.proofs.OpeningLemmas.{handed_back, next_counts, started_more}
use Rattle.shard_set.proofs.opening.start_each.Goals as goal

pub returns-in-Err-clause-refused : goal.returns-in-Err-clause-refused
returns-in-Err-clause-refused g c =
    handed_back (settings_of c.args.setup.now) c.args.setup.now.redo (record { class = c.loop-class.class; fault = c.in-Err.fault }) c.args.disks.items c.loop-class.disks.items c.start_next.new.disks.items c.put_before.result.items c.loop-class.shards.items c.start_next.new.shards.items
    c.loop-class.invariant.started c.loop-class.invariant.rest c.in-Err.ensures.refused c.put_before.ensures (omega (arith, c.loop-class.shards.ok.0, c.loop-class.invariant.count))

pub loop-class-preserved : goal.loop-class-preserved
loop-class-preserved g c =
    let next = c.in-Ok.ensures.starts in
    let more = started_more (settings_of c.args.setup.now) c.args.setup.now.redo c.args.disks.items c.loop-class.disks.items c.start_next.new.disks.items c.loop-class.shards.items c.start_next.new.shards.items c.loop-class.invariant.rest next c.loop-class.invariant.started in
    let counts = next_counts (settings_of c.args.setup.now) c.args.setup.now.redo c.loop-class.disks.items c.start_next.new.disks.items c.loop-class.shards.items c.start_next.new.shards.items next in
    record {
      started = more.0;
      rest = more.1;
      count = omega (arith, counts.0, c.loop-class.shards.ok.0, c.start_next.new.shards.ok.0, c.loop-class.invariant.count);
      left = omega (arith, counts.1, c.loop-class.disks.ok.0, c.start_next.new.disks.ok.0, c.loop-class.invariant.left);
      room = omega (arith, c.start_next.ensures.room, c.loop-class.invariant.room);
      disk_room = omega (arith, c.start_next.ensures.disk_room, c.loop-class.invariant.disk_room);
    }
