use Rattle.pickle_form.proofs.ReadingLemmas.{read_back}
use Rattle.pickle_form.proofs.laws.pickle_is_read_back.Goals as goal

pub returns : goal.returns
returns c = read_back
