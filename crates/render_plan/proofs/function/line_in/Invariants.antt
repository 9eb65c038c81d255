use Rattle.std.proofs.Common.{◌≡◌, drop, find, map}
use Rattle.render_plan.specs.Functions.{has_name, row_seen}
use Rattle.render_plan.proofs.function.line_in.Given as goal

abbrev pub invariant-loop-line : goal.invariant-loop-line
invariant-loop-line l = find (has_name l.name) (map row_seen (drop l.line-index l.lines)) ≡ find (has_name l.name) (map row_seen l.lines)
