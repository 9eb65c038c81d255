use Rattle.std.proofs.Common.{◌≡◌}
use Rattle.front_tests.proofs.line_front_tests.serve_all.Given as goal

abbrev pub invariant-loop-link : goal.invariant-loop-link
invariant-loop-link g l = l.pass.table ≡ g.N.Named.table
