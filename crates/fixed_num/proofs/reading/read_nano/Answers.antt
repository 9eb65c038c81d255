use Rattle.std.proofs.Common.{◌^◌, sym, ap, rules, SFits, to_z-of_z, ◌∙◌}
use Rattle.std.specs.Int.{w128}
use Rattle.fixed_num.specs.Decimal.{fits_i64}
use Rattle.fixed_num.specs.Read.{fitting, rounded_down}
use Rattle.fixed_num.proofs.FitLemmas.{i64_is_within}
use Rattle.fixed_num.proofs.ReadLemmas.{read_none, read_some}
use Rattle.fixed_num.proofs.reading.read_nano.Goals as goal

pub returns-in_default : goal.returns-in_default
returns-in_default c = rw c.fault_of.ensures (read_none fits_i64 (10 ^ 9) c.args.text.now (sym c.in_default.ensures.value))

pub returns : goal.returns
returns c =
    let wide : SFits w128 c.rounded_down.result = search rules in
    (simp to_z-of_z at c.fitting_i64.ensures)
    ∙ (ap (fitting fits_i64) (c.rounded_down.ensures ∙ ap (λ negative. rounded_down negative c.in-Some.reached) c.starts_with_minus.ensures)
    ∙ read_some fits_i64 i64_is_within (10 ^ 9) c.args.text.now c.in-Some.reached (sym c.in-Some.ensures.value))
