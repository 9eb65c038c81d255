use Rattle.std.proofs.Common.{None, refl}
use Rattle.metric_table.proofs.TableLemmas.{same_numbers, sets_shown}
use Rattle.metric_table.proofs.table.MetricTable.remove.Goals as goal

pub returns : goal.returns
returns c =
    let layouts = c.self.inside.layouts in
    sets_shown layouts layouts c.self.inside.index c.remove.new.self c.args.path.now None c.args.self.now None c.self.view_is c.self.invariant (same_numbers layouts) c.remove.ensures refl
