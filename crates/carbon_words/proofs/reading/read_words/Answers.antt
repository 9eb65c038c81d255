use Rattle.std.proofs.Common.{◌∙◌, ◌≡◌, map, sym}
use Rattle.std.specs.Prelude.{string_bytes}
use Rattle.carbon_words.specs.declared.reading.WordsFault.TheVariants.{Usage}
use Rattle.carbon_words.proofs.ParseLemmas.{command_found, no_command}
use Rattle.carbon_words.proofs.reading.read_words.Goals as goal

pub returns-in-Some-clause-command : goal.returns-in-Some-clause-command
returns-in-Some-clause-command c =
    command_found (map string_bytes c.args.words.now) c.in-Ok.matches c.in-Ok.ensures.ok ∙ sym c.command_met.ensures.said ∙ c.in-Some.is

pub returns-in-Err-clause-usage : goal.returns-in-Err-clause-usage
returns-in-Err-clause-usage c = λ is.
    let usage : c.fault_of.result ≡ Usage = cc in
    no_command (map string_bytes c.args.words.now) (c.in-Err.ensures.err (c.fault_of.ensures usage))

pub returns-clause-usage : goal.returns-clause-usage
returns-clause-usage c = λ _.
    command_found (map string_bytes c.args.words.now) c.in-Ok.matches c.in-Ok.ensures.ok ∙ sym c.command_met.ensures.said ∙ c.in-None.is
