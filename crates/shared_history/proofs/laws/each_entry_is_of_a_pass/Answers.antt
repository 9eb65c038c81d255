use Rattle.shared_history.proofs.PartLemmas.{passes_count}
use Rattle.shared_history.proofs.laws.each_entry_is_of_a_pass.Goals as goal

pub returns : goal.returns
returns c = passes_count
