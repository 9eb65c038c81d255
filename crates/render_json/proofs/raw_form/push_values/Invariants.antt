use Rattle.std.proofs.Common.{◌≡◌, ◌++◌, drop, cond, map, codes}
use Rattle.render_json.specs.Raw.{none_text, values_text}
use Rattle.render_json.specs.Values.{further, joined, value_or}
use Rattle.render_json.proofs.raw_form.push_values.Given as goal

abbrev pub invariant-loop-value : goal.invariant-loop-value
invariant-loop-value l =
    let left = map (value_or none_text) (drop l.value-index l.series.values) in
    l.out.items ++ cond l.is_first (joined (codes ",") left) (further (codes ",") left) ≡ l.fn.out.items ++ values_text l.series
