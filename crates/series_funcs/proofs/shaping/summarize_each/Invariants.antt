use Rattle.std.proofs.Common.{◌≡◌, Ok, take}
use Rattle.series_funcs.specs.Each.{each_of}
use Rattle.series_funcs.specs.Moved.{summarized}
use Rattle.series_funcs.proofs.shaping.summarize_each.Given as goal

abbrev pub invariant-loop-series : goal.invariant-loop-series
invariant-loop-series l = each_of (summarized l.step l.gather l.call.function.now l.call.tail.now) (take l.series-index l.set) ≡ Ok l.summaries.items
