use Rattle.std.proofs.Common.{◌≡◌, ◌∙◌}
use Rattle.std.proofs.lemmas.Result.{IfOk-weaker}
use Rattle.metric_index.specs.Index.{paths_of}
use Rattle.metric_table.proofs.TableLemmas.{shown_paths}
use Rattle.metric_table.proofs.table.MetricTable.names.Goals as goal

pub returns : goal.returns
returns c =
    IfOk-weaker c.paths.result (λ names. names.items ≡ paths_of c.self.inside.index) (λ names. names.items ≡ paths_of c.args.self.now)
    (λ names is. is ∙ shown_paths c.self.inside.layouts c.self.inside.index c.args.self.now c.self.view_is) c.paths.ensures
