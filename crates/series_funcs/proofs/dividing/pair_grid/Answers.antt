use Rattle.std.proofs.Common.{◌≡◌, List, [], ◌∷◌, subst, ap₂}
use Rattle.series_set.specs.Series.{SeriesValue}
use Rattle.series_set.specs.CommonGrid.{EndsSoonAfter}
use Rattle.series_funcs.proofs.dividing.pair_grid.Goals as goal

pub returns-clause-late : goal.returns-clause-late
returns-clause-late c =
    let both : c.push-2.new.self ≡ c.args.dividend.now ∷ c.args.divisor.now ∷ [] =
    rw (c.in_ok-push-2.ensures.ok, c.in_ok-push.ensures.ok, c.new-pair.ensures) (ap₂ (λ (a b : SeriesValue). a ∷ b ∷ []) c.in_ok-copy.ensures c.in_ok-copy-2.ensures) in
    subst (λ (set : List SeriesValue). EndsSoonAfter set c.in_ok-grid.grid.end) both c.in_ok-grid.ensures.late
