use Rattle.series_set.proofs.LawLemmas.{floor_is}
use Rattle.series_funcs.proofs.laws.quotient_is_rounded_down.Goals as goal

pub returns : goal.returns
returns c = λ a b some. floor_is a b some
