use Rattle.std.specs.Prelude.{All}
use Rattle.render_need.specs.Ends.{AreEnds}
use Rattle.store_tests.proofs.shared_store_kit.needs_of.Given as goal

abbrev pub invariant-loop-glob : goal.invariant-loop-glob
invariant-loop-glob l = All AreEnds l.needs.items
