use Rattle.std.proofs.Common.{rules, ◌≡◌, ◌∙◌, ◌<◌, ◌↔◌, IsTrue, ℕ, List, Bool, length, get_or, sym, subst, arith}
use Rattle.path_glob.specs.Faults.{Said}
use Rattle.metric_index.specs.Found.{IsFitted}
use Rattle.metric_index.specs.Verdicts.{AreVerdicts}
use Rattle.metric_index.proofs.VerdictLemmas.{verdicts_more}
use Rattle.metric_index.proofs.verdicts.fits_of.Goals as goal

pub loop-path-preserved : goal.loop-path-preserved
loop-path-preserved c =
    let v = c.loop-path.invariant in
    let fits : Bool = c.in_ok-matches.field-0 in
    let path : List ℕ = c.path-item.result in
    let some : length c.loop-path.fits.items < length c.args.paths.now = omega (arith, c.loop-path-test.true, v.count) in
    let next : get_or c.args.paths.now (length c.loop-path.fits.items) path ≡ path = search rules in
    let is : IsTrue fits ↔ IsFitted c.args.search.now path = subst (λ (g : Said). IsTrue fits ↔ IsFitted g path) v.same c.in_ok-matches.ensures.fits in
    record {
      same = c.matches.ensures.same ∙ v.same;
      have = subst (AreVerdicts c.args.search.now c.args.paths.now) (sym c.in_ok-push.ensures.items) (verdicts_more c.args.search.now c.args.paths.now c.loop-path.fits.items fits path path v.have some next is);
      count = search rules;
    }
