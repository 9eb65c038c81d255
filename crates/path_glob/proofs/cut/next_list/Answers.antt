use Rattle.std.proofs.Common.{[], ap, ◌∙◌}
use Rattle.path_glob.specs.Reading.{row_after}
use Rattle.path_glob.proofs.PartLemmas.{list_at, list_nowhere}
use Rattle.path_glob.proofs.cut.next_list.Goals as goal

pub returns-in-Some : goal.returns-in-Some
returns-in-Some c =
    let cuts = c.in-Some.ensures.cuts in
    (ap (row_after []) cuts.0 ∙ list_at [] c.in-Some.cut.before.now c.in-Some.cut.after.now cuts.1, c.in-Some.ensures.parts.1)

pub returns-in-None : goal.returns-in-None
returns-in-None c = list_nowhere [] c.args.text.now c.in-None.ensures.cuts
