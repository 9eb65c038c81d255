use Rattle.std.proofs.Common.{◌==◌, ◌+◌, sym, ap, ◌∙◌, arith, take, drop, length-drop}
use Rattle.std.proofs.lemmas.List.{take_rest}
use Rattle.std.specs.List.{slice_split}
use Rattle.path_glob.proofs.PartLemmas.{cut_where_found, no_mark_found, part_at, part_nowhere}
use Rattle.path_glob.proofs.cut.cut_at.Goals as goal

pub returns-in-Some : goal.returns-in-Some
returns-in-Some c =
    let text = c.args.text.now in
    let mark = c.args.mark in
    let at = c.in-Some.at in
    let found = cut_where_found mark text at (sym c.place_of.ensures.value ∙ c.in-Some.is) in
    record {
      cuts = rw take_rest found;
      parts = rw take_rest (ap (slice_split (λ b. b == mark)) found.0 ∙ part_at mark (take at text) (drop (at + 1) text) found.1, omega (arith, length-drop (at + 1) text, c.in-Some.ensures.within));
    }

pub returns-in-None : goal.returns-in-None
returns-in-None c =
    let none = no_mark_found c.args.mark c.args.text.now (sym c.place_of.ensures.value ∙ c.in-None.is) in
    record { cuts = none; parts = part_nowhere c.args.mark c.args.text.now none }
