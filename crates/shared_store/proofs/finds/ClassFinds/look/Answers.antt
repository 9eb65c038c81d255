use Rattle.std.proofs.Common.{rules, ◌≡◌, List, sym, subst}
use Rattle.std.specs.Prelude.{IfOk}
use Rattle.metric_index.specs.Found.{IsFitted}
use Rattle.metric_table.specs.declared.found_metric.FoundMetric.{FoundMetric}
use Rattle.carbon_model.specs.Replay.{replay}
use Rattle.shard_core.specs.Looks.{FindsFor, Looks}
use Rattle.shared_store.specs.Finds.{ClassFindsValue}
use Rattle.shared_store.proofs.FindLemmas.{if_ok}
use Rattle.shared_store.proofs.finds.ClassFinds.look.Goals as goal

pub returns-clause-looks : goal.returns-clause-looks
returns-clause-looks g c =
    let n = g.N.Named in
    let f = c.self.inside in
    let desk = f.desk.now in
    let need = f.need.now in
    let same : record { desk = desk; need = need } ≡ c.args.self.now = search rules in
    subst (λ (v : ClassFindsValue). IfOk c.look_at.result (λ looked. Looks v.desk.class (replay n.start v.desk.list) (IsFitted v.need.glob) c.args.now v.need.from v.need.until looked.items)) same
    (if_ok c.look_at.result _ _ c.look_at.ensures.looks (λ looked looks.
    looks need.glob (subst (λ (l : List FoundMetric). FindsFor desk.class (replay n.start desk.list) (IsFitted need.glob) l) (sym c.deref.ensures.value) c.self.invariant)))
