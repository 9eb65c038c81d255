use Rattle.crash_law.proofs.StartLemmas.{none_damaged, started_keeps}
use Rattle.crash_law.proofs.laws.a_start_over_what_a_crash_left.Goals as goal

pub returns-clause-kept : goal.returns-clause-kept
returns-clause-kept g c = started_keeps

pub returns-clause-sound : goal.returns-clause-sound
returns-clause-sound g c = none_damaged g.D.Disk
