use Rattle.std.proofs.Common.{◌∙◌, ap, ℕ, List, Option, false}
use Rattle.std.specs.Prelude.{codes}
use Rattle.std.specs.Option.{option_map_or}
use Rattle.clap.specs.Matches.{found_of}
use Rattle.clap.proofs.WalkLemmas.{first_value-rows}
use Rattle.carbon_words.specs.CommandLine.{is_on, redo_in}
use Rattle.carbon_words.proofs.reading.redo_in.Goals as goal

pub returns-in-Some : goal.returns-in-Some
unfolding redo_in
returns-in-Some c =
    let read = c.in-Some.ensures ∙ first_value-rows (found_of c.args.values.now) (codes "redo") in
    c.is_on.ensures ∙ ap (λ (o : Option (List ℕ)). option_map_or is_on o false) read

pub returns-in-None : goal.returns-in-None
unfolding redo_in
returns-in-None c =
    let read = c.in-None.ensures ∙ first_value-rows (found_of c.args.values.now) (codes "redo") in
    ap (λ (o : Option (List ℕ)). option_map_or is_on o false) read
