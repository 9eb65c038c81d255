use Rattle.std.proofs.Common.{◌≡◌}
use Rattle.render_json.specs.Csv.{csv_of}
use Rattle.render_json.proofs.csv_form.csv_text.Given as goal

abbrev pub invariant-loop-series : goal.invariant-loop-series
invariant-loop-series l = l.out.items ≡ csv_of l.yielded
