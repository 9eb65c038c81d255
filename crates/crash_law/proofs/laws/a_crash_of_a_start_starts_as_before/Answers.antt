use Rattle.crash_law.proofs.OpenLemmas.{starts_before}
use Rattle.crash_law.proofs.laws.a_crash_of_a_start_starts_as_before.Goals as goal

pub returns : goal.returns
returns c = starts_before
