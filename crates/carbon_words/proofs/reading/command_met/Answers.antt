use Rattle.std.proofs.Common.{◌∙◌, ap}
use Rattle.carbon_words.specs.CommandLine.{command_met}
use Rattle.carbon_words.proofs.ParseLemmas.{both_parts}
use Rattle.carbon_words.proofs.reading.command_met.Goals as goal

pub returns-clause-said : goal.returns-clause-said
returns-clause-said c =
    let met = both_parts _ _ _ _ _ c.in_ok-name.ensures.name c.in_ok-name.ensures.rows in
    c.command_in.ensures.said ∙ ap command_met met
