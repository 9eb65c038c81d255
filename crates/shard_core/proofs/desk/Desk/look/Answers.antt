use Rattle.std.proofs.Common.{List, subst, sym}
use Rattle.metric_index.specs.Found.{IsFitted}
use Rattle.metric_table.specs.declared.found_metric.FoundMetric.{FoundMetric}
use Rattle.shard_core.specs.Halves.{both, desk_of}
use Rattle.shard_core.specs.Looks.{FindsFor, IsFoundIn}
use Rattle.shard_core.proofs.ReadingLemmas.{if_ok_more}
use Rattle.shard_core.proofs.desk.Desk.look.Goals as goal

pub returns-clause-looks : goal.returns-clause-looks
returns-clause-looks c =
    if_ok_more c.look_at.result _ _ c.look_at.ensures.looks (λ looked looks files told s holds.
    looks files told s c.args.glob.now holds
    (subst (λ (found : List FoundMetric). FindsFor c.args.self.now.class s (IsFitted c.args.glob.now) found) (sym c.deref.ensures.value) ((c.in_ok-found.ensures files).states told s holds)))

pub returns-clause-readable : goal.returns-clause-readable
returns-clause-readable c =
    if_ok_more c.look_at.result _ _ c.look_at.ensures.readable (λ looked may files.
    may files c.args.glob.now
    (subst (λ (found : List FoundMetric). IsFoundIn (both (desk_of c.args.self.now) files) (IsFitted c.args.glob.now) found) (sym c.deref.ensures.value) (c.in_ok-found.ensures files)))
