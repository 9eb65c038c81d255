use Rattle.carbon_script.proofs.RoundLemmas.{WritesSoFar}
use Rattle.carbon_script.proofs.round.write_run.Given as goal

abbrev pub invariant-loop-class : goal.invariant-loop-class
invariant-loop-class g l = WritesSoFar g.N.Named.start l.class l.fn.pass l.pass
