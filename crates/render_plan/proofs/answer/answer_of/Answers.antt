use Rattle.std.proofs.Common.{◌≢◌, Err, Ok, map, subst}
use Rattle.series_set.specs.declared.grid.EvalFault.TheVariants.{NoMemory}
use Rattle.series_funcs.proofs.EachLemmas.{if_err_at}
use Rattle.render_plan.specs.Planned.{plan_of}
use Rattle.render_plan.specs.Terms.{term_of}
use Rattle.render_plan.specs.Values.{Answers, Rows}
use Rattle.render_plan.proofs.ValueLemmas.{answer_dated, answer_good, answer_stop}
use Rattle.render_plan.proofs.answer.answer_of.Goals as goal

pub returns-in_err-sets-clause-err : goal.returns-in_err-sets-clause-err
returns-in_err-sets-clause-err c =
    let plan = plan_of (map term_of c.args.targets.now.items) c.args.settings.now in
    let fault = c.in_err-sets.field-0.0 in
    if_err_at (λ fault. fault ≢ NoMemory → Answers plan c.args.rows.items (Err fault)) _ fault c.from_residual-in_err-sets.ensures.1
    (λ other. subst (λ (rows : Rows). Answers plan rows (Err fault)) c.from_vec-left.ensures.items
    (answer_stop plan c.from_vec-left.result.items fault (c.in_err-sets.ensures.err other)))

pub returns-clause-ok : goal.returns-clause-ok
returns-clause-ok c =
    let plan = plan_of (map term_of c.args.targets.now.items) c.args.settings.now in
    subst (λ (rows : Rows). Answers plan rows (Ok c.in_ok-answer.answer)) c.from_vec-left.ensures.items
    (answer_good plan c.from_vec-left.result.items c.in_ok-sets.sets.items c.in_ok-all.all c.in_ok-answer.answer c.most_of-most.result
    c.in_ok-sets.ensures.ok c.in_ok-all.ensures c.most_of-most.ensures.value c.in_ok-answer.ensures)

pub returns-clause-early : goal.returns-clause-early
returns-clause-early c =
    answer_dated c.args.settings.now.format c.args.settings.now.points c.most_of-most.result c.from_vec-left.result.items c.values_of.new.rows.items c.in_ok-sets.sets.items c.in_ok-all.all c.in_ok-answer.answer
    c.in_ok-sets.ensures.made c.in_ok-all.ensures c.most_of-most.ensures.value c.in_ok-answer.ensures
