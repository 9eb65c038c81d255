use Rattle.std.proofs.Common.{◌≡◌}
use Rattle.render_json.specs.Raw.{raw_of}
use Rattle.render_json.proofs.raw_form.raw_text.Given as goal

abbrev pub invariant-loop-series : goal.invariant-loop-series
invariant-loop-series l = l.out.items ≡ raw_of l.yielded
