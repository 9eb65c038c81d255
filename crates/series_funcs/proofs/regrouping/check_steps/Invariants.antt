use Rattle.std.proofs.Common.{◌≡◌, None, take}
use Rattle.series_set.specs.CommonGrid.{first_wide}
use Rattle.series_funcs.specs.Regrouped.{members}
use Rattle.series_funcs.proofs.regrouping.check_steps.Given as goal

abbrev pub invariant-loop-place : goal.invariant-loop-place
invariant-loop-place l = first_wide (members (take l.place l.groups.entries)) ≡ None
