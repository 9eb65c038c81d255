use Rattle.write_shelf.proofs.LawLemmas.{are_runs, only_runs}
use Rattle.write_shelf.proofs.laws.runs_are_those_of_their_patch.Goals as goal

pub returns-clause-are : goal.returns-clause-are
returns-clause-are c = are_runs

pub returns-clause-alone : goal.returns-clause-alone
returns-clause-alone c = only_runs
