use Rattle.crash_law.proofs.AllLemmas.{kill_fronts}
use Rattle.crash_law.proofs.laws.a_kill_leaves_a_front_of_the_drains.Goals as goal

pub returns : goal.returns
returns g c = kill_fronts
