use Rattle.std.proofs.Common.{◌∙◌, ap, ℕ, List, Option, Some}
use Rattle.std.specs.Option.{option_map_or}
use Rattle.clap.specs.Matches.{found_of}
use Rattle.clap.proofs.WalkLemmas.{raw_values-rows}
use Rattle.carbon_words.specs.CommandLine.{hosts_in}
use Rattle.carbon_words.specs.HostTexts.{all_hosts, hosts_by}
use Rattle.carbon_words.proofs.reading.hosts_in.Goals as goal

pub returns-in-Some : goal.returns-in-Some
unfolding hosts_in
returns-in-Some c =
    let read = c.in-Some.ensures ∙ raw_values-rows (found_of c.args.values.now) c.args.name.now in
    c.hosts_by.ensures ∙ ap (λ (o : Option (List (List ℕ))). option_map_or hosts_by o (Some all_hosts)) read

pub returns-in-None : goal.returns-in-None
unfolding hosts_in
returns-in-None c =
    let read = c.in-None.ensures ∙ raw_values-rows (found_of c.args.values.now) c.args.name.now in
    ap Some c.all.ensures ∙ ap (λ (o : Option (List (List ℕ))). option_map_or hosts_by o (Some all_hosts)) read
