use Rattle.shared_history.proofs.PartLemmas.{all_begin}
use Rattle.shared_history.proofs.laws.what_is_seen_begins_the_history.Goals as goal

pub returns : goal.returns
returns c = all_begin
