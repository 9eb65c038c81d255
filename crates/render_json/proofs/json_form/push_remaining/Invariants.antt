use Rattle.std.proofs.Common.{◌≡◌, ◌≤◌, ◌+◌, ◌*◌, ◌/◌, ◌++◌, drop, cond, map, length, codes}
use Rattle.series_set.specs.OnGrid.{points_from}
use Rattle.series_set.specs.Series.{latest_end}
use Rattle.render_json.specs.Json.{no_text, point_text, time_tail}
use Rattle.render_json.specs.Values.{further, joined}
use Rattle.render_json.proofs.json_form.push_remaining.Given as goal

abbrev pub invariant-loop-value : goal.invariant-loop-value
invariant-loop-value l =
    let left = map point_text (points_from l.time l.step l.values) in
    (l.out.items ++ cond l.is_first (joined (codes ", ") left) (further (codes ", ") left)
    ≡ l.fn.out.items ++ joined (codes ", ") (map point_text (points_from l.fn.start l.fn.step l.fn.values)))
    × (l.time + length l.values * l.step ≤ latest_end)
    × (drop l.end l.text ≡ time_tail l.time no_text) × (37 ≤ l.end) × (l.end ≤ 64)
    × (l.base ≡ l.time / 10000 * 10000)

abbrev pub decreases-loop-value : goal.decreases-loop-value
decreases-loop-value l = length l.values
