use Rattle.std.proofs.Common.{ap, ◌∙◌}
use Rattle.render_plan.specs.Values.{Rows, nth}
use Rattle.render_plan.proofs.ApplyLemmas.{divided_made}
use Rattle.render_plan.proofs.apply.divided.Goals as goal

pub returns-clause-made : goal.returns-clause-made
returns-clause-made c =
    let first = c.nth-dividends.ensures ∙ ap (λ (sets : Rows). nth sets 0) c.as_slice.ensures.value in
    let second = c.nth-divisors.ensures ∙ ap (λ (sets : Rows). nth sets 1) c.as_slice-2.ensures.value in
    divided_made c.args.sets.items c.nth-dividends.result.now c.nth-divisors.result.now c.in_ok-set.set first second c.in_ok-set.ensures.ok c.in_ok-set.ensures.bounds
