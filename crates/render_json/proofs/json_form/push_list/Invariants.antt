use Rattle.std.proofs.Common.{◌≡◌, ◌++◌, map, codes}
use Rattle.render_json.specs.Json.{series_json}
use Rattle.render_json.specs.Values.{joined}
use Rattle.render_json.proofs.JoinLemmas.{is_none}
use Rattle.render_json.proofs.json_form.push_list.Given as goal

abbrev pub invariant-loop-series : goal.invariant-loop-series
invariant-loop-series l =
    (l.out.items ≡ l.fn.out.items ++ joined (codes ", ") (map series_json l.yielded)) × (l.is_first ≡ is_none l.yielded)
