use Rattle.series_set.proofs.LawLemmas.{agreeing_series_keep_their_grid as law}
use Rattle.series_set.proofs.laws.agreeing_series_keep_their_grid.Goals as goal

pub returns : goal.returns
returns c = law
