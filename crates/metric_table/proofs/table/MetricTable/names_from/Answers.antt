use Rattle.std.proofs.lemmas.Result.{IfOk-weaker}
use Rattle.metric_index.specs.Searched.{IsPieceFrom}
use Rattle.metric_table.proofs.TableLemmas.{known_shown}
use Rattle.metric_table.proofs.table.MetricTable.names_from.Goals as goal

pub returns : goal.returns
returns c =
    IfOk-weaker c.paths_from.result (λ names. IsPieceFrom c.self.inside.index c.args.least.now names.items) (λ names. IsPieceFrom c.args.self.now c.args.least.now names.items)
    (λ names is. record { known = known_shown c.self.inside.layouts c.self.inside.index c.args.self.now names.items c.self.view_is is.known; rising = is.rising; behind = is.behind }) c.paths_from.ensures
