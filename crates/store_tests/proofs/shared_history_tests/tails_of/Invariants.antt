use Rattle.shared_history.specs.Parts.{TailsOfTable}
use Rattle.store_tests.proofs.shared_history_tests.tails_of.Given as goal

abbrev pub invariant-loop-class : goal.invariant-loop-class
invariant-loop-class g l = TailsOfTable g.N.Named.table l.tails.items
