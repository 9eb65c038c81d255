use Rattle.ring_archive.proofs.AlikeLemmas.{aside_alike, fresh_alike}
use Rattle.ring_archive.proofs.laws.laid_cells_hide_those_of_the_file.Goals as goal

pub returns-clause-aside : goal.returns-clause-aside
returns-clause-aside c = aside_alike

pub returns-clause-fresh : goal.returns-clause-fresh
returns-clause-fresh c = fresh_alike
