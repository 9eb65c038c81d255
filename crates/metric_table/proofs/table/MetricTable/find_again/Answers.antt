use Rattle.std.proofs.Common.{◌≡◌, ◌<◌, List, length, map, All, Result, subst, sym, ap, ◌∙◌}
use Rattle.std.specs.Result.{IfOk}
use Rattle.std.proofs.lemmas.Result.{IfOk-weaker}
use Rattle.metric_index.specs.Found.{Finds, IsFitted, seen as hit_seen}
use Rattle.metric_index.specs.declared.hit.Hit.{Hit}
use Rattle.metric_table.specs.Numbered.{known_by_all}
use Rattle.metric_table.specs.Table.{seen}
use Rattle.metric_table.specs.declared.entry.Entry.{Entry}
use Rattle.metric_table.proofs.TableLemmas.{finds_shown, hits_have, known_before}
use Rattle.metric_table.proofs.table.MetricTable.find_again.Goals as goal

pub metrics_of-requires : goal.metrics_of-requires
metrics_of-requires c =
    let layouts = c.self.inside.layouts in
    let index = c.self.inside.index in
    let finds : Finds index (IsFitted c.args.searched.now.glob) (map hit_seen c.in_ok-hits.hits.items) =
    subst (λ (r : Result _ _). IfOk r (λ hits. Finds index (IsFitted c.args.searched.now.glob) (map hit_seen hits.items))) c.in_ok-hits.was c.find_again.ensures in
    subst (λ (l : List (Hit Entry)). All (λ hit. hit.entry.now.layout < length layouts) l) (sym c.deref.ensures.value)
    (hits_have layouts index c.in_ok-hits.hits.items c.self.invariant finds.entries)

pub returns : goal.returns
returns c =
    let layouts = c.self.inside.layouts in
    let index = c.self.inside.index in
    let fits = IsFitted c.args.searched.now.glob in
    let finds : Finds index fits (map hit_seen c.in_ok-hits.hits.items) =
    subst (λ (r : Result _ _). IfOk r (λ hits. Finds index fits (map hit_seen hits.items))) c.in_ok-hits.was c.find_again.ensures in
    IfOk-weaker c.metrics_of.result (λ found. map seen found.items ≡ known_by_all layouts (map hit_seen c.deref.result.now)) (λ found. Finds c.args.self.now fits (map seen found.items))
    (λ found same. finds_shown layouts index (map hit_seen c.in_ok-hits.hits.items) c.args.self.now (map seen found.items) fits c.self.view_is finds
    (same ∙ ap (λ (l : List (Hit Entry)). known_by_all layouts (map hit_seen l)) c.deref.ensures.value)) c.metrics_of.ensures

pub find_again-requires : goal.find_again-requires
find_again-requires c = record {
  known = known_before c.self.inside.layouts c.self.inside.index c.args.self.now c.args.searched.now.names c.self.view_is c.requires.known;
}
