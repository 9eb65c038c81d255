use Rattle.std.proofs.Common.{◌++◌, All, map, sym, subst, ap, ◌∙◌}
use Rattle.series_funcs.specs.Combined.{IsSoonAfter}
use Rattle.series_funcs.specs.Divided.{undivided}
use Rattle.series_funcs.proofs.RatioLemmas.{undivided_soon}
use Rattle.series_funcs.proofs.dividing.divide.Goals as goal

pub returns-in_ok-undivided_all-in-empty-clause-bounds : goal.returns-in_ok-undivided_all-in-empty-clause-bounds
returns-in_ok-undivided_all-in-empty-clause-bounds c =
    subst (All (IsSoonAfter (c.args.dividends.now ++ c.args.divisors.now))) (sym (c.in_ok-undivided_all-in-empty.ensures ∙ ap (map (undivided _)) c.as_slice-dividends.ensures))
    (undivided_soon _ c.args.dividends.now c.args.divisors.now c.requires.dividends)

pub returns-in_ok-undivided_all-in_default-clause-bounds : goal.returns-in_ok-undivided_all-in_default-clause-bounds
returns-in_ok-undivided_all-in_default-clause-bounds c =
    subst (All (IsSoonAfter (c.args.dividends.now ++ c.args.divisors.now))) (sym (c.in_ok-undivided_all-in_default.ensures ∙ ap (map (undivided _)) c.as_slice-dividends.ensures))
    (undivided_soon _ c.args.dividends.now c.args.divisors.now c.requires.dividends)
