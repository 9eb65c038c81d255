use Rattle.std.proofs.Common.{◌≡◌, Ok, take}
use Rattle.std.specs.List.{AllZip}
use Rattle.series_funcs.specs.Combined.{IsSoonAfter}
use Rattle.series_funcs.specs.Each.{each_of}
use Rattle.series_funcs.specs.Regrouped.{combined_group}
use Rattle.series_funcs.proofs.regrouping.combine_each.Given as goal

abbrev pub invariant-loop-place : goal.invariant-loop-place
invariant-loop-place l =
    (each_of (combined_group l.kind) (take l.place l.groups.entries) ≡ Ok l.together.items)
    × AllZip (λ group s. IsSoonAfter group.1 s) (take l.place l.groups.entries) l.together.items
