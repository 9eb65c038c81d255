use Rattle.metric_index.specs.Found.{IsFitted}
use Rattle.shard_core.specs.Halves.{both, desk_of}
use Rattle.shard_core.proofs.LookLemmas.{looks_at, may_read, readable_looks}
use Rattle.shard_core.proofs.ReadingLemmas.{if_ok_both, if_ok_more}
use Rattle.shard_core.proofs.desk.Desk.look_at.Goals as goal

pub returns-clause-looks : goal.returns-clause-looks
returns-clause-looks c =
    if_ok_more c.look_at_each.result _ _ c.look_at_each.ensures.looked (λ looked is files.
    looks_at (both (desk_of c.args.self.now) files) c.args.now c.args.from c.args.until c.args.found.now looked.items is)

pub returns-clause-readable : goal.returns-clause-readable
returns-clause-readable c =
    if_ok_both c.look_at_each.result _ _ _ c.look_at_each.ensures.looked c.look_at_each.ensures.sound (λ looked is sound files glob finds.
    may_read (both (desk_of c.args.self.now) files) (IsFitted glob) c.args.now c.args.from c.args.until c.args.found.now looked.items finds is
    (readable_looks c.args.self.now.class c.args.self.now.cache.metrics c.args.now c.args.from c.args.until c.args.found.now looked.items c.args.self.now.metrics is sound))

pub returns-clause-sound : goal.returns-clause-sound
returns-clause-sound c =
    if_ok_both c.look_at_each.result _ _ _ c.look_at_each.ensures.looked c.look_at_each.ensures.sound (λ looked is sound.
    readable_looks c.args.self.now.class c.args.self.now.cache.metrics c.args.now c.args.from c.args.until c.args.found.now looked.items c.args.self.now.metrics is sound)
