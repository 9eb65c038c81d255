use Rattle.std.proofs.lemmas.Result.{IfOk-weaker}
use mathlib.Core.List.{IsPrefix}
use Rattle.metric_index.specs.Index.{paths_of}
use Rattle.metric_index.specs.Searched.{IsPieceFrom}
use Rattle.metric_index.proofs.PieceLemmas.{piece_from}
use Rattle.metric_index.proofs.index.Index.paths_from.Goals as goal

pub returns : goal.returns
returns g c =
    IfOk-weaker c.first_of.result (λ paths. IsPrefix paths.items (paths_of c.range.result)) (λ paths. IsPieceFrom c.args.self.now c.args.least.now paths.items)
    (λ paths front. piece_from c.args.self.now c.self.inside.entries.entries c.range.result c.args.least.now paths.items c.self.view_is (c.range.ensures.between tt) c.range.ensures.ordered front) c.first_of.ensures
