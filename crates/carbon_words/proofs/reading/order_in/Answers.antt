use Rattle.std.proofs.Common.{◌∙◌, ap, ℕ, List, Option, Some}
use Rattle.std.specs.Prelude.{codes}
use Rattle.std.specs.Option.{option_map_or}
use Rattle.drain_order.specs.declared.strategy.Strategy.TheVariants.{Sorted}
use Rattle.clap.specs.Matches.{found_of}
use Rattle.clap.proofs.WalkLemmas.{first_value-rows}
use Rattle.carbon_words.specs.CommandLine.{order_in, order_of}
use Rattle.carbon_words.proofs.reading.order_in.Goals as goal

pub returns-in-Some : goal.returns-in-Some
unfolding order_in
returns-in-Some c =
    let read = c.in-Some.ensures ∙ first_value-rows (found_of c.args.values.now) (codes "order") in
    c.order_of.ensures ∙ ap (λ (o : Option (List ℕ)). option_map_or order_of o (Some Sorted)) read

pub returns-in-None : goal.returns-in-None
unfolding order_in
returns-in-None c =
    let read = c.in-None.ensures ∙ first_value-rows (found_of c.args.values.now) (codes "order") in
    ap (λ (o : Option (List ℕ)). option_map_or order_of o (Some Sorted)) read
