use Rattle.std.proofs.Common.{rules, map, ◌+◌, ◌≡◌, ◌∙◌, ◌≢◌, All, ◌++◌, ◌∷◌, [], ap, sym, subst, List}
use Rattle.std.specs.Prelude.{drop}
use Rattle.metric_table.specs.Table.{seen}
use Rattle.series_fetch.specs.declared.range.Window.TheVariants.{Empty}
use Rattle.shard_core.specs.Looks.{IsSoundLook, looked_as, looked_in}
use Rattle.shard_core.specs.declared.looked.Looked.{Looked}
use Rattle.shard_core.proofs.LookLemmas.{looked_on, sound_more}
use Rattle.shard_core.proofs.desk.Desk.look_at_each.Goals as goal
use Rattle.shard_core.proofs.desk.Desk.look_at_each.Goals.{then-ne+in_ok-look_at_one+in_ok-push, else-ne}

pub loop-metric-preserved : goal.loop-metric-preserved
loop-metric-preserved c =
    let next = looked_on c.args.self.now.cache.metrics c.args.now c.args.from c.args.until c.args.found.now c.loop-metric.metric-index c.metric-item.result c.loop-metric.looked.items
    (looked_in c.args.self.now.cache.metrics c.args.now c.args.from c.args.until (map seen c.args.found.now)) c.window_of-window.result
    c.loop-metric-test.true c.metric-item.is c.window_of-window.ensures.window c.loop-metric.invariant.looked in
    elim c.if-ne.branch [
      | then-ne+in_ok-look_at_one+in_ok-push w ↦
          let some : c.window_of-window.result ≢ Empty = search rules in
          let items : c.if-ne.looked.items ≡ c.loop-metric.looked.items ++ w.in_ok-look_at_one.field-0 ∷ [] = search rules in
          let pushed : c.if-ne.looked.items ≡ c.loop-metric.looked.items ++ looked_as c.args.self.now.cache.metrics c.window_of-window.result (seen c.metric-item.result) ∷ [] = search rules in
          record {
            looked = ap (λ (ls : List Looked). ls ++ looked_in c.args.self.now.cache.metrics c.args.now c.args.from c.args.until (map seen (drop (c.loop-metric.metric-index + 1) c.args.found.now))) pushed ∙ next.0 some;
            sound = subst (λ (ls : List Looked). All IsSoundLook ls) (sym items)
                (sound_more c.loop-metric.looked.items w.in_ok-look_at_one.field-0 c.loop-metric.invariant.sound w.in_ok-look_at_one.ensures.sound);
          }
      | else-ne w ↦
          let same : c.if-ne.looked.items ≡ c.loop-metric.looked.items = search rules in
          let none : c.window_of-window.result ≡ Empty = search rules in
          record {
            looked = ap (λ (ls : List Looked). ls ++ looked_in c.args.self.now.cache.metrics c.args.now c.args.from c.args.until (map seen (drop (c.loop-metric.metric-index + 1) c.args.found.now))) same ∙ next.1 none;
            sound = subst (λ (ls : List Looked). All IsSoundLook ls) (sym same) c.loop-metric.invariant.sound;
          }
    ]
