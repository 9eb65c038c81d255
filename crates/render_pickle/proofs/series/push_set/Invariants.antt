use Rattle.std.proofs.Common.{◌≡◌, ◌++◌, map}
use Rattle.pickle_form.specs.Pickle.{items_code}
use Rattle.pickle_form.specs.Value.{row}
use Rattle.render_pickle.specs.Reply.{series_value}
use Rattle.render_pickle.proofs.series.push_set.Given as goal

abbrev pub invariant-loop-series : goal.invariant-loop-series
invariant-loop-series l = l.out.items ≡ l.fn.out.items ++ items_code (row (map series_value l.yielded))
