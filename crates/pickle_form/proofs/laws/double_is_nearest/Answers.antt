use Rattle.pickle_form.proofs.NearestLemmas.{nearest_of}
use Rattle.pickle_form.proofs.laws.double_is_nearest.Goals as goal

pub returns : goal.returns
returns c = nearest_of
