use Rattle.std.proofs.Common.{List, ℕ, ◌∷◌, ◌++◌, [], ap, ◌∙◌, sym, arith, map}
use Rattle.path_glob.specs.Glob.{Plain}
use Rattle.path_glob.specs.Reading.{pieces_of, row_of}
use Rattle.path_glob.proofs.PartLemmas.{braces_at, braces_open, opened_nowhere}
use Rattle.path_glob.proofs.cut.next_braces.Goals as goal

pub returns-in_default : goal.returns-in_default
returns-in_default c = opened_nowhere [] c.args.node.now c.in_default.ensures.cuts

pub returns-in_default-cut_at : goal.returns-in_default-cut_at
returns-in_default-cut_at c =
    let cuts = c.in-Some.ensures.cuts in
    ap pieces_of cuts.0 ∙ braces_open c.in-Some.opened.before.now c.in-Some.opened.after.now cuts.1 c.in_default-cut_at.ensures.cuts
    ∙ ap (λ (l : List ℕ). map Plain (row_of l)) (sym cuts.0)

pub returns : goal.returns
returns c =
    let opens = c.in-Some.ensures.cuts in
    let closes = c.in-Some-cut_at.ensures.cuts in
    let before = c.in-Some.opened.before.now in
    let whole = opens.0 ∙ ap (λ (l : List ℕ). before ++ 123 ∷ l) closes.0 in (
      ap pieces_of whole ∙ braces_at before c.in-Some-cut_at.closed.before.now c.in-Some-cut_at.closed.after.now opens.1 closes.1,
      omega (arith, c.in-Some.ensures.parts.1, c.in-Some-cut_at.ensures.parts.1),
    )
