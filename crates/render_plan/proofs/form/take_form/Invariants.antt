use Rattle.std.proofs.Common.{◌≡◌}
use Rattle.form_urlencoded.specs.Form.{raw_pairs}
use Rattle.form_urlencoded.specs.Parse.{pairs_left}
use Rattle.render_plan.specs.Given.{with_pairs}
use Rattle.render_plan.proofs.form.take_form.Given as goal

abbrev pub invariant-loop-pair : goal.invariant-loop-pair
invariant-loop-pair l = with_pairs l.given (pairs_left l.pair-iterator) ≡ with_pairs l.fn.given (raw_pairs l.form)
