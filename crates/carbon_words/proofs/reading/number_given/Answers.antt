use Rattle.std.proofs.Common.{◌∙◌, ap, ℕ, List, Option}
use Rattle.std.specs.Prelude.{option_and_then}
use Rattle.clap.specs.Matches.{found_of}
use Rattle.clap.proofs.WalkLemmas.{first_value-rows}
use Rattle.carbon_words.specs.CommandLine.{between, number_given}
use Rattle.carbon_words.proofs.reading.number_given.Goals as goal

pub returns-in-Some-clause-number : goal.returns-in-Some-clause-number
unfolding number_given
returns-in-Some-clause-number c =
    let read = c.in-Some.ensures ∙ first_value-rows (found_of c.args.values.now) c.args.name.now in
    c.between.ensures.number ∙ ap (λ (o : Option (List ℕ)). option_and_then (between c.args.least c.args.most) o) read

pub returns-in-None-clause-number : goal.returns-in-None-clause-number
unfolding number_given
returns-in-None-clause-number c =
    let read = c.in-None.ensures ∙ first_value-rows (found_of c.args.values.now) c.args.name.now in
    ap (λ (o : Option (List ℕ)). option_and_then (between c.args.least c.args.most) o) read
