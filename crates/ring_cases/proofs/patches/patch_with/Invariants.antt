-- The patch is of the layout, and fresh or not, as it was made.
use Rattle.std.proofs.Common.{◌≡◌}
use Rattle.ring_cases.proofs.patches.patch_with.Given as goal

abbrev pub invariant-loop-cell : goal.invariant-loop-cell
invariant-loop-cell l = record {
  layout : l.patch.layout ≡ l.fn.layout;
  fresh : l.patch.fresh ≡ l.fn.fresh;
}
