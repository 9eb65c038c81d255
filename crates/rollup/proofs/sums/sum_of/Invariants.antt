use Rattle.std.proofs.Common.{◌≡◌, ◌≤◌, ◌*◌, ◌^◌, pos, ◌+ℤ◌, fold, take}
use Rattle.std.specs.Int.RustNames.{unsigned_abs}
use Rattle.rollup.proofs.sums.sum_of.Given as goal

abbrev pub invariant-loop-value : goal.invariant-loop-value
invariant-loop-value l = (l.sum ≡ fold ◌+ℤ◌ (pos 0) (take l.value-index l.known)) × (unsigned_abs l.sum ≤ 10 ^ 30 * l.value-index)
