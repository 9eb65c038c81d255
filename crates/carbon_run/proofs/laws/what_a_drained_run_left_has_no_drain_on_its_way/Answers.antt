use Rattle.carbon_run.proofs.DrainedLemmas.{none_on_its_way}
use Rattle.carbon_run.proofs.laws.what_a_drained_run_left_has_no_drain_on_its_way.Goals as goal

pub returns : goal.returns
returns g c told disks s class disk opening left drained at known now = none_on_its_way g.D.Disk told disks s class disk opening left drained at known now
