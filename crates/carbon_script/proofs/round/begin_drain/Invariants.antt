use Rattle.carbon_script.proofs.RoundLemmas.{PlansSoFar}
use Rattle.carbon_script.proofs.round.begin_drain.Given as goal

abbrev pub invariant-loop-class : goal.invariant-loop-class
invariant-loop-class g l = PlansSoFar g.N.Named.start l.class l.fn.pass l.pass
