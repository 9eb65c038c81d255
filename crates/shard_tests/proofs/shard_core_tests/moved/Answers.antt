use Rattle.std.proofs.Common.{rules}
use Rattle.shard_core.specs.Looks.{MayRead}
use Rattle.shard_core.specs.View.{inside_of}
use Rattle.shard_core.proofs.ReadLemmas.{may_read_later}
use Rattle.shard_tests.proofs.shard_core_tests.moved.Goals as goal

pub read-requires : goal.read-requires
read-requires g c =
    let may : MayRead (inside_of c.args.shard.now) c.in-Some.one.now = search rules in
    may_read_later (inside_of c.args.shard.now) (inside_of c.plan.new.self) c.in-Some.one.now c.plan.ensures.same.class c.plan.ensures.layouts may
