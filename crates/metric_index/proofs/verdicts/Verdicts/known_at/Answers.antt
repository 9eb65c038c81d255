use Rattle.std.proofs.Common.{rules, ◌≡◌, ◌<◌, ◌↔◌, IsTrue, Bool, List, ℕ, length, get_or, subst}
use Rattle.path_glob.specs.Faults.{Said}
use Rattle.metric_index.specs.Found.{IsFitted}
use Rattle.metric_index.proofs.VerdictLemmas.{known_verdict}
use Rattle.metric_index.proofs.verdicts.Verdicts.known_at.Goals as goal

pub returns-then-eq : goal.returns-then-eq
returns-then-eq c =
    let paths = c.self.inside.paths.now in
    let verdicts = c.self.inside.fits.items in
    let one : List ℕ = c.index-self-at.result in
    let fits : Bool = c.index.result.now in
    let there : c.args.at < length paths = search rules in
    let known : c.args.at < length verdicts = search rules in
    let same : get_or paths c.args.at one ≡ c.args.path.now = search rules in
    let is : get_or verdicts c.args.at fits ≡ fits = search rules in
    subst (λ (g : Said). IsTrue fits ↔ IsFitted g c.args.path.now) c.self.view_is
    (subst (λ (b : Bool). IsTrue b ↔ IsFitted c.self.inside.glob.now c.args.path.now) is
    (known_verdict c.self.inside.glob.now paths verdicts c.args.at c.args.path.now one fits c.self.invariant there known same))
