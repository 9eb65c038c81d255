use Rattle.path_glob.specs.Tables.{AreEmpty}
use Rattle.path_glob.proofs.tables.empty_sets.Given as goal

abbrev pub invariant-loop-byte : goal.invariant-loop-byte
invariant-loop-byte l = AreEmpty l.sets.items l.words l._byte
