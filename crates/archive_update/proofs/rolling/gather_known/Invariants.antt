-- The known of the values so far.
use Rattle.std.proofs.Common.{◌≡◌}
use Rattle.std.specs.Prelude.{take}
use Rattle.std.specs.List.{filter_map}
use Rattle.archive_update.specs.Batch.{itself}
use Rattle.archive_update.proofs.rolling.gather_known.Given as goal

abbrev pub invariant-loop-value : goal.invariant-loop-value
invariant-loop-value l = l.known.items ≡ filter_map itself (take l.value-index l.part)
