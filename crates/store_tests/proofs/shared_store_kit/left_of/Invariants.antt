use Rattle.shared_history.specs.Parts.{PassesOfTable}
use Rattle.store_tests.proofs.shared_store_kit.left_of.Given as goal

abbrev pub invariant-loop-worker : goal.invariant-loop-worker
invariant-loop-worker g l = PassesOfTable g.N.Named.table l.passes.items
