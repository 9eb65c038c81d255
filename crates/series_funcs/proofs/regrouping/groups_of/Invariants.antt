use Rattle.std.proofs.Common.{◌≡◌, take}
use Rattle.series_funcs.specs.Regrouped.{group_text, groups_by}
use Rattle.series_funcs.proofs.regrouping.groups_of.Given as goal

abbrev pub invariant-loop-series : goal.invariant-loop-series
invariant-loop-series l = l.groups.entries ≡ groups_by (λ s. group_text l.kind s.path) (take l.series-index l.set)
