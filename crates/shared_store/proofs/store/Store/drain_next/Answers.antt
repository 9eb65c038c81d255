use Rattle.shared_store.proofs.DrainLemmas.{busy_whole, drained_none, drained_one, in_again, in_both, took_whole}
use Rattle.shared_store.proofs.store.Store.drain_next.Goals as goal

pub returns-in-Took-clause-drains : goal.returns-in-Took-clause-drains
returns-in-Took-clause-drains g c =
    took_whole g.N.Named.start g.N.Named.passes c.args.class c.args.now _ c.write_whole.result c.args.pass.now c.plan_step.new.pass c.write_whole.new.pass
    c.in-Took.ensures.enters c.plan_step.ensures.looks c.in-Took.ensures.after c.write_whole.ensures.whole

pub returns-in-Took-clause-looks : goal.returns-in-Took-clause-looks
returns-in-Took-clause-looks g c =
    in_both c.args.class c.args.pass.now c.plan_step.new.pass c.write_whole.new.pass
    (in_again c.args.class c.args.pass.now c.plan_step.new.pass c.plan_step.ensures.looks) c.write_whole.ensures.looks

pub returns-in-Busy-clause-drains : goal.returns-in-Busy-clause-drains
returns-in-Busy-clause-drains g c =
    busy_whole g.N.Named.start g.N.Named.passes c.args.class c.args.now c.write_whole-in-Busy.result c.args.pass.now c.plan_step.new.pass c.write_whole-in-Busy.new.pass
    c.requires.whole c.in-Busy.ensures.enters c.plan_step.ensures.looks c.in-Busy.ensures.after c.write_whole-in-Busy.ensures.whole

pub returns-in-Busy-clause-looks : goal.returns-in-Busy-clause-looks
returns-in-Busy-clause-looks g c =
    in_both c.args.class c.args.pass.now c.plan_step.new.pass c.write_whole-in-Busy.new.pass
    (in_again c.args.class c.args.pass.now c.plan_step.new.pass c.plan_step.ensures.looks) c.write_whole-in-Busy.ensures.looks

pub returns-in-Took-clause-one : goal.returns-in-Took-clause-one
returns-in-Took-clause-one g c =
    drained_one g.N.Named.start g.N.Named.passes c.args.class _ c.args.pass.now c.plan_step.new.pass c.write_whole.new.pass c.in-Took.ensures.enters c.write_whole.ensures.none

pub returns-in-Busy-clause-one : goal.returns-in-Busy-clause-one
returns-in-Busy-clause-one g c =
    drained_none g.N.Named.start g.N.Named.passes c.args.class c.args.pass.now c.plan_step.new.pass c.write_whole-in-Busy.new.pass c.in-Busy.ensures.enters
    c.write_whole-in-Busy.ensures.none
