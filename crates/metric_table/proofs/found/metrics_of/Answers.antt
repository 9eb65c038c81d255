use Rattle.std.proofs.Common.{map, ap, ◌∙◌}
use Rattle.std.proofs.lemmas.List.{map-append}
use Rattle.metric_table.specs.Table.{seen}
use Rattle.metric_table.proofs.TableLemmas.{one_more}
use Rattle.metric_table.proofs.found.metrics_of.Goals as goal

pub loop-hit-preserved : goal.loop-hit-preserved
loop-hit-preserved c =
    ap (map seen) c.in_ok-push.ensures.items ∙ map-append seen c.loop-hit.found.items _
    ∙ one_more c.args.layouts.now c.args.hits.now (map seen c.loop-hit.found.items) c.loop-hit.hit-index c.hit-item.result c.get-layout.result.now c.loop-hit.invariant c.loop-hit-test.true c.hit-item.is c.get-layout.ensures
