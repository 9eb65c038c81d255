use Rattle.std.proofs.Common.{◌≡◌, None, Some, rules, sym, ap, ◌∙◌}
use Rattle.metric_index.specs.Index.{entry_of}
use Rattle.metric_table.proofs.TableLemmas.{shown_entry}
use Rattle.metric_table.proofs.table.MetricTable.get.Goals as goal

pub returns-in_err-entry-clause-value : goal.returns-in_err-entry-clause-value
returns-in_err-entry-clause-value c =
    let none : entry_of c.self.inside.index c.args.path.now ≡ None = search rules in
    let gone : c.from_residual.result ≡ None = search rules in
    gone ∙ sym (shown_entry c.self.inside.layouts c.self.inside.index c.args.self.now c.args.path.now None c.self.view_is none)

pub returns-clause-value : goal.returns-clause-value
returns-clause-value c =
    let some : entry_of c.self.inside.index c.args.path.now ≡ Some c.in_ok-entry.field-0.now = search rules in
    ap Some c.known_by.ensures.value ∙ sym (shown_entry c.self.inside.layouts c.self.inside.index c.args.self.now c.args.path.now (Some c.in_ok-entry.field-0.now) c.self.view_is some)
