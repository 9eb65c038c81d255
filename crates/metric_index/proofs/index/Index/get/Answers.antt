use Rattle.std.proofs.Common.{ℕ, List, ap, ◌∙◌}
use Rattle.metric_index.specs.Index.{entry_of}
use Rattle.metric_index.proofs.IndexLemmas.{by_bytes}
use Rattle.metric_index.proofs.index.Index.get.Goals as goal

pub returns : goal.returns
returns g c =
    c.get.ensures.value ∙ by_bytes c.args.path.now c.self.inside.entries.entries ∙ ap (λ (es : List (List ℕ × _)). entry_of es c.args.path.now) c.self.view_is
