use Rattle.std.proofs.Common.{◌∙◌, subst, sym}
use Rattle.std.specs.Cmp.{unsigned_Decides}
use Rattle.std.proofs.lemmas.Slice.Eq.{starts_is}
use Rattle.metric_path.specs.Path.{nodes_of}
use Rattle.path_glob.specs.Faults.{Said}
use Rattle.path_glob.specs.Glob.{Fits}
use Rattle.path_glob.proofs.CoverLemmas.{tells_no}
use Rattle.path_glob.proofs.glob_search.GlobSearch.matches.Goals as goal

pub returns-then-not-starts_with-clause-fits : goal.returns-then-not-starts_with-clause-fits
returns-then-not-starts_with-clause-fits c =
    let path = c.args.path.now in
    let starts = starts_is unsigned_Decides c.text-text.result.now c.self.inside.front.now c.starts_with.result c.starts_with.ensures.value in
    tells_no (λ fits.
    let begins = c.self.invariant.1 path (subst (λ (said : Said). Fits said.nodes (nodes_of path)) (sym c.self.view_is) fits) in
    absurd (let yes = sym c.if-not-starts_with.true ∙ starts.1 begins.0 (c.text-text.ensures.value ∙ begins.1) in cc))
