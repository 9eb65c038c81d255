use Rattle.path_glob.specs.Positions.{held}
use Rattle.path_glob.specs.Reading.{row_of}
use Rattle.path_glob.proofs.GroupLemmas.{leads_one}
use Rattle.path_glob.proofs.groups.after_rows.Goals as goal

pub returns-in-One : goal.returns-in-One
returns-in-One c = rw c.in-One.is (leads_one (row_of c.in-One.row.now) c.args.node.now (held c.args.start) (held c.after_row.result) c.after_row.ensures)
