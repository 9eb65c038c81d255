use Rattle.std.proofs.Common.{◌≡◌, ◌≤◌, ◌*◌, ◌+◌, ◌^◌, ◌-ℤ◌, fold, take}
use Rattle.std.specs.Int.RustNames.{unsigned_abs}
use Rattle.series_funcs.proofs.combining.less_others.Given as goal

abbrev pub invariant-loop-other : goal.invariant-loop-other
invariant-loop-other l = (l.left ≡ fold ◌-ℤ◌ l.fn.first (take l.other-index l.others)) × (unsigned_abs l.left ≤ 10 ^ 30 * (l.other-index + 1))
