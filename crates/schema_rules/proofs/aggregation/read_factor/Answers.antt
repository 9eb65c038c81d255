use Rattle.std.proofs.Common.{sym, ◌∙◌}
use Rattle.schema_rules.proofs.FactorLemmas.{millionths_most}
use Rattle.schema_rules.proofs.aggregation.read_factor.Goals as goal

pub returns-in-Ok-clause-most : goal.returns-in-Ok-clause-most
returns-in-Ok-clause-most c = millionths_most c.in-Some.text.now c.in-Ok.factor (sym c.read_millionths.ensures ∙ c.in-Ok.is)
