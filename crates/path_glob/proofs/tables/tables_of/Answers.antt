use Rattle.path_glob.proofs.tables.tables_of.Goals as goal

pub returns : goal.returns
returns c = record { firsts = c.in_ok-firsts.ensures; stars = c.in_ok-stars.ensures; ends = c.in_ok-ends.ensures; over = c.in_ok-over.ensures }
