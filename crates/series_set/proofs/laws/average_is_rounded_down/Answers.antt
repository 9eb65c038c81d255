use Rattle.series_set.proofs.LawLemmas.{average_is_rounded_down as law}
use Rattle.series_set.proofs.laws.average_is_rounded_down.Goals as goal

pub returns : goal.returns
returns c = law
