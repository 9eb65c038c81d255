use Rattle.std.proofs.Common.{◌^◌, sym, ap, rules, SFits, to_z-of_z, ◌∙◌}
use Rattle.std.specs.Int.{w128}
use Rattle.fixed_num.specs.Decimal.{fits}
use Rattle.fixed_num.specs.Read.{fitting, rounded_down}
use Rattle.fixed_num.proofs.FitLemmas.{values_are_within}
use Rattle.fixed_num.proofs.ReadLemmas.{read_none, read_some}
use Rattle.fixed_num.proofs.reading.read_milli.Goals as goal

pub returns-in_default-clause-value : goal.returns-in_default-clause-value
returns-in_default-clause-value c = rw c.fault_of.ensures (read_none fits (10 ^ 3) c.args.text.now (sym c.in_default.ensures.value))

pub returns-clause-value : goal.returns-clause-value
returns-clause-value c =
    let wide : SFits w128 c.rounded_down.result = search rules in
    (simp to_z-of_z at c.fitting.ensures.value)
    ∙ (ap (fitting fits) (c.rounded_down.ensures ∙ ap (λ negative. rounded_down negative c.in-Some.reached) c.starts_with_minus.ensures)
    ∙ read_some fits values_are_within (10 ^ 3) c.args.text.now c.in-Some.reached (sym c.in-Some.ensures.value))
