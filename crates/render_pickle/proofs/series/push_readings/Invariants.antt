use Rattle.std.proofs.Common.{◌≡◌, ◌++◌, drop, map}
use Rattle.pickle_form.specs.Pickle.{items_code}
use Rattle.pickle_form.specs.Value.{row}
use Rattle.render_pickle.specs.Reply.{reading_value}
use Rattle.render_pickle.proofs.series.push_readings.Given as goal

abbrev pub invariant-loop-value : goal.invariant-loop-value
invariant-loop-value l =
    l.out.items ++ items_code (row (map reading_value (drop l.value-index l.values))) ≡ l.fn.out.items ++ items_code (row (map reading_value l.values))
