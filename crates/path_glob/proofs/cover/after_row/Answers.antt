use Rattle.std.proofs.Common.{arith, subst, sym, List}
use Rattle.path_glob.specs.Glob.{Covers, RowCovers, Simple}
use Rattle.path_glob.specs.Positions.{Leads, held}
use Rattle.path_glob.specs.Reading.{row_of}
use Rattle.path_glob.proofs.PositionLemmas.{leads_in_turn, leads_none, leads_nowhere}
use Rattle.path_glob.proofs.cover.after_row.Goals as goal

pub loop-step-preserved : goal.loop-step-preserved
loop-step-preserved c = λ new leads.
    let said = c.in-Some.ensures in
    let others = row_of c.in-Some.step.after.now in
    let turn = leads_in_turn {R = Covers said.0} {S = RowCovers others} c.args.node.now (held c.loop-step.reached) (held c.in-Some.step.reached) new said.3 leads in
    c.loop-step.invariant new (subst (λ (row : List Simple). Leads (RowCovers row) c.args.node.now (held c.loop-step.reached) new) (sym said.1) turn)

pub returns-then-is_none : goal.returns-then-is_none
returns-then-is_none c =
    let node = c.args.node.now in
    let said = c.in-Some.ensures in
    let others = row_of c.in-Some.step.after.now in
    let none = held c.in-Some.step.reached in
    let turn = leads_in_turn {R = Covers said.0} {S = RowCovers others} node (held c.loop-step.reached) none none said.3
    (leads_none {R = RowCovers others} node none (λ j within. c.is_none.ensures c.if-is_none.true j (omega (arith, within, c.requires)))) in
    c.loop-step.invariant none (subst (λ (row : List Simple). Leads (RowCovers row) node (held c.loop-step.reached) none) (sym said.1) turn)

pub returns : goal.returns
returns c =
    let reached = held c.loop-step.reached in
    c.loop-step.invariant reached (subst (λ (row : List Simple). Leads (RowCovers row) c.args.node.now reached reached) (sym c.in_default.ensures) (leads_nowhere c.args.node.now reached))
