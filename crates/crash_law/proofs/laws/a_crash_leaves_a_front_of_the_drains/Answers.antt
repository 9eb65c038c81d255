use Rattle.crash_law.proofs.AllLemmas.{crash_fronts}
use Rattle.crash_law.proofs.laws.a_crash_leaves_a_front_of_the_drains.Goals as goal

pub returns : goal.returns
returns g c = crash_fronts
