use Rattle.std.proofs.Common.{◌≡◌, ◌≤◌, ◌<◌, ◌+◌, ◌*◌, ◌++◌, drop, flat_map, length}
use Rattle.series_set.specs.OnGrid.{points_from}
use Rattle.render_json.specs.Csv.{date_number, latest_csv_end, line_text}
use Rattle.render_json.specs.Values.{points_of}
use Rattle.render_json.proofs.csv_form.push_lines.Given as goal

abbrev pub invariant-loop-value : goal.invariant-loop-value
invariant-loop-value l =
    (l.out.items ++ flat_map (line_text l.field) (points_from l.time l.series.step (drop l.value-index l.series.values)) ≡ l.fn.out.items ++ flat_map (line_text l.field) (points_of l.series))
    × (l.time + length (drop l.value-index l.series.values) * l.series.step ≤ latest_csv_end)
    × (l.date.number ≡ date_number l.date.day) × (l.date.number < 100000000)
