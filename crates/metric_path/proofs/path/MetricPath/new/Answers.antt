use Rattle.std.proofs.Common.{sym, ◌∙◌}
use Rattle.metric_path.proofs.PathLemmas.{path_fault_is_no_memory}
use Rattle.metric_path.proofs.path.MetricPath.new.Goals as goal

pub returns-in-Some-clause-memory : goal.returns-in-Some-clause-memory
returns-in-Some-clause-memory c = λ told. absurd (path_fault_is_no_memory c.args.text.now (sym c.in-Some.ensures ∙ cc))
