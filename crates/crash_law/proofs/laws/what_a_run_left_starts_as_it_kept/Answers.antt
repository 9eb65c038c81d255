use Rattle.crash_law.proofs.OpenLemmas.{starts_left}
use Rattle.crash_law.proofs.laws.what_a_run_left_starts_as_it_kept.Goals as goal

pub returns : goal.returns
returns c = starts_left
