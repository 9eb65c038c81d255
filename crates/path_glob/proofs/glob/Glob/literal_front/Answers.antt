use Rattle.std.proofs.Common.{List, ℕ, subst, sym, ap, ◌∙◌}
use Rattle.metric_path.specs.Path.{nodes_of}
use Rattle.path_glob.specs.Faults.{Said}
use Rattle.path_glob.specs.Glob.{Fits}
use Rattle.path_glob.specs.Laws.{BeginsWith, literal_front}
use Rattle.path_glob.proofs.FirstLemmas.{front_begins}
use Rattle.path_glob.proofs.glob.Glob.literal_front.Goals as goal

pub returns-clause-fits : goal.returns-clause-fits
returns-clause-fits c = λ path fits.
    let text = c.self.inside.text.items in
    let whole = subst (λ (said : Said). Fits said.nodes (nodes_of path)) (sym c.self.view_is) fits in
    subst (λ (front : List ℕ). BeginsWith front path) (sym (c.literal_front.ensures ∙ ap literal_front c.as_slice.ensures.value)) (front_begins text path whole)
