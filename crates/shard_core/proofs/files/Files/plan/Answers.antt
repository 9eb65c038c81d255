use Rattle.std.proofs.Common.{◌∙◌, ℕ, length, Option, ap, subst}
use Rattle.drain_order.specs.Picking.{Picks}
use Rattle.drain_order.proofs.PickLemmas.{none_then_empty}
use Rattle.shard_core.specs.Halves.{desk_of, files_of}
use Rattle.shard_core.proofs.HalvesLemmas.{begins_picked}
use Rattle.shard_core.proofs.files.Files.plan.Goals as goal

pub unreachable-requires : goal.unreachable-requires
unreachable-requires g c =
    let old = c.args.desk.now in
    let picks = subst (λ (place : Option ℕ). Picks old.picker c.pick.new.self.picker old.cache place) c.in-Ok-None.field-0-is c.in-Ok-None.ensures.picks in
    c.if-cached_metrics-eq0.false (c.cached_metrics.ensures ∙ ap length (none_then_empty old.picker.strategy old.picker.queue old.cache.metrics picks.told))

pub returns-in-Ok-clause-plans : goal.returns-in-Ok-clause-plans
returns-in-Ok-clause-plans g c =
    begins_picked (desk_of c.args.desk.now) (desk_of c.pick.new.self) (desk_of c.begin.new.desk) (files_of c.args.self.now) (files_of c.begin.new.self) c.in-Ok.path c.args.now c.pick.ensures.only c.in-Ok.ensures.begins
