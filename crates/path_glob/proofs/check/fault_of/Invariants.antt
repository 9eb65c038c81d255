use Rattle.std.proofs.Common.{◌≡◌, drop, Ok}
use Rattle.path_glob.specs.declared.check.Around.TheVariants.{NodeStart}
use Rattle.path_glob.specs.Faults.{fault_from}
use Rattle.path_glob.proofs.check.fault_of.Given as goal

abbrev pub invariant-loop-place : goal.invariant-loop-place
invariant-loop-place l = fault_from (Ok l.around) l.place (drop l.place l.text) ≡ fault_from (Ok NodeStart) 0 l.text
