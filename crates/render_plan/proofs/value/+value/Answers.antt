use Rattle.std.proofs.Common.{◌≢◌, ◌+◌, List, Err, Ok, drop, sym, subst, rules}
use Rattle.series_set.specs.declared.grid.EvalFault.TheVariants.{NoMemory}
use Rattle.series_funcs.proofs.EachLemmas.{if_err_at}
use Rattle.render_plan.specs.declared.target.Target.{Target}
use Rattle.render_plan.specs.Bounds.{end_within}
use Rattle.render_plan.specs.Terms.{terms_of}
use Rattle.render_plan.specs.Values.{HaveValues, Rows}
use Rattle.render_plan.proofs.ValueLemmas.{Reached, call_limited, call_made, loop_end, loop_next, loop_sound, loop_stop, path_gives}
use Rattle.render_plan.proofs.value.+value.Goals as goal

pub value_of-returns-in-Path-clause-made : goal.value_of-returns-in-Path-clause-made
value_of-returns-in-Path-clause-made m c =
    path_gives c.args.rows.now.items c.first_taken-set.new.rows.items c.first_taken-set.result c.args.levels c.requires.rows c.first_taken-set.ensures.left c.first_taken-set.ensures.value

pub value_of-applied-requires-clause-limited : goal.value_of-applied-requires-clause-limited
value_of-applied-requires-clause-limited m c =
    call_limited c.args.rows.now.items c.values_of.new.rows.items c.in_ok-sets-in-Call.sets.items _ c.args.levels c.requires.deep c.requires.rows c.in_ok-sets-in-Call.ensures.made (search rules)

pub value_of-returns-in-Call-clause-made : goal.value_of-returns-in-Call-clause-made
value_of-returns-in-Call-clause-made m c =
    call_made c.args.rows.now.items c.values_of.new.rows.items c.in_ok-sets-in-Call.sets.items _ c.args.levels c.in_ok-set-in-Call.set c.in_ok-sets-in-Call.ensures.made c.in_ok-set-in-Call.ensures.made (search rules) (search rules)

pub values_of-returns-in_err-set-clause-err : goal.values_of-returns-in_err-set-clause-err
values_of-returns-in_err-set-clause-err m c =
    let fault = c.in_err-set.field-0.0 in
    if_err_at (λ fault. fault ≢ NoMemory → HaveValues (terms_of c.args.targets.now.items) c.args.rows.now.items (Err fault)) _ fault c.from_residual.ensures.1
    (λ other. subst (λ (l : List Target). HaveValues (terms_of l) c.args.rows.now.items (Err fault)) c.deref-target-items.ensures.value
    (loop_stop c.deref-target-items.result.now c.args.rows.now.items (end_within c.args.levels) c.loop-target.target-index c.target-item.result c.loop-target.rows.items c.loop-target.sets.items fault
    c.loop-target-test.true c.target-item.is c.loop-target.invariant.1 (c.in_err-set.ensures.err other)))

pub values_of-loop-target-preserved : goal.values_of-loop-target-preserved
values_of-loop-target-preserved m c =
    let targets = c.deref-target-items.result.now in
    let next = loop_next targets c.args.rows.now.items (end_within c.args.levels) c.loop-target.target-index c.target-item.result c.loop-target.rows.items c.value_of.new.rows.items c.loop-target.sets.items c.in_ok-set.set
    c.loop-target-test.true c.target-item.is c.loop-target.invariant.1 c.in_ok-set.ensures.ok c.in_ok-set.ensures.left c.in_ok-set.ensures.made in (
      loop_sound targets c.args.levels c.loop-target.target-index c.target-item.result c.loop-target-test.true c.target-item.is c.loop-target.invariant.0,
      subst (λ (sets : Rows). Reached (terms_of targets) c.args.rows.now.items (end_within c.args.levels) (terms_of (drop (c.loop-target.target-index + 1) targets)) c.value_of.new.rows.items sets) (sym c.in_ok-push.ensures) next,
    )

pub values_of-returns-clause-ok : goal.values_of-returns-clause-ok
values_of-returns-clause-ok m c =
    let done = loop_end c.deref-target-items.result.now c.args.rows.now.items (end_within c.args.levels) c.loop-target.target-index c.loop-target.rows.items c.loop-target.sets.items c.loop-target.invariant.1 (search rules) in
    subst (λ (l : List Target). HaveValues (terms_of l) c.args.rows.now.items (Ok c.loop-target.sets.items)) c.deref-target-items.ensures.value done
